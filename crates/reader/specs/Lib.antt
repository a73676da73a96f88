-- Section 1 as the reader has it.
pub mod Head
