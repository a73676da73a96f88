-- The laws of house.
pub mod Orders
pub mod Says
pub mod Quorums
