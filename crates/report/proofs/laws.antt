-- The laws of report.
pub mod TextLaws
pub mod Spelled
pub mod TextExamples
pub mod Examples
