-- The laws of spelling.
pub mod Fits
pub mod Round
pub mod Readback
