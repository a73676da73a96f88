-- What the words and numbers of a line are, which order a line is, how it is held while it comes, and what reading it promises.
pub mod Parts
pub mod Numeral
pub mod Orders
pub mod Held
pub mod Reads
pub mod Feed
pub mod Spelling
pub mod Examples
