-- The laws of soundness.
pub mod Lists
pub mod Pairs
