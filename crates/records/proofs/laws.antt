-- The laws of records.
pub mod Answers
pub mod Outcome
pub mod Rec
pub mod Table
pub mod Kinds
pub mod Examples
pub mod Sections
pub mod Bytes
pub mod Lengths
pub mod Shapes
pub mod Obeys
pub mod Rows
pub mod Structs
