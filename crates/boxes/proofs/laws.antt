-- The laws of boxes.
pub mod Answers
pub mod Promise
pub mod Examples
pub mod Long
pub mod Listing
pub mod Parts
pub mod Sound
