-- The plans and orders of two nights, and the world after them.
pub mod Played
pub mod Lists
pub mod Example
pub mod Common
