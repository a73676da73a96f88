-- The laws of reader.
pub mod Head
pub mod Turns
