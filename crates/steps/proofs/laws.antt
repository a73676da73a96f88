-- The laws of steps.
pub mod Acting
pub mod Judged
pub mod Judging
pub mod Owned
