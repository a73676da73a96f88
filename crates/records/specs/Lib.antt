-- Document 01, 'Records': the answers, the format by kind, a record as a value and as a struct, its rules, its bytes, and what reading
-- and writing promise.
pub mod Answers
pub mod Outcome
pub mod Format
pub mod Rec
pub mod Rules
pub mod Fields
pub mod Bytes
pub mod Examples
