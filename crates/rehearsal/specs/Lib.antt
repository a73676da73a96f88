-- The rehearsal: what an order does to a night over the bytes of its post, what its box sees of it, and what is promised.
pub mod Night
pub mod Alone
pub mod Steps
pub mod Promises
pub mod Settled
