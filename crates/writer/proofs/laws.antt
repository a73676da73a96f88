-- The laws of writer.
pub mod Sections
pub mod Whole
