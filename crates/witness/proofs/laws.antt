-- The laws of witness.
pub mod Example
pub mod Common
pub mod Harm
