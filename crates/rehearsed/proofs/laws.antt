-- The laws of rehearsed.
pub mod Walk
pub mod Same
pub mod Turns
pub mod Runs
pub mod Proved
pub mod Plans
pub mod Sessions
pub mod Lists
pub mod ShownProved
