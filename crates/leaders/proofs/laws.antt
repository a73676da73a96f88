-- The laws of leaders.
pub mod Votes
pub mod Room
pub mod Voted
