-- The laws of rehearsal.
pub mod Alone
pub mod Steps
pub mod Promises
pub mod Settled
