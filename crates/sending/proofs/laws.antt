-- The laws of sending.
pub mod Sends
pub mod Kinds
pub mod Next
pub mod Turns
