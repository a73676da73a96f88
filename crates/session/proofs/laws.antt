-- The laws of session.
pub mod Typed
pub mod Examples
pub mod AsTyped
pub mod HeardLaws
pub mod Hears
pub mod Asked
pub mod Turned
pub mod Promises
pub mod SessionLaws
pub mod Whole
pub mod Lines
pub mod Reading
