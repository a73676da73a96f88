-- The laws of laws.
pub mod Choice
pub mod Fold
pub mod Ranges
pub mod Place
pub mod Induction
pub mod Lex
pub mod Majority
pub mod Digits
pub mod Tray
pub mod Codec
