-- The laws of lines.
pub mod PartLaws
pub mod NumeralLaws
pub mod OrderLaws
pub mod Reads
pub mod ReadLaws
pub mod Feed
pub mod Spelling
pub mod Examples
pub mod Held
pub mod Parts
