-- The laws of collector.
pub mod Promises
pub mod Face
pub mod Leaves
pub mod Unfit
