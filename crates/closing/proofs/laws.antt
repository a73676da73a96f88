-- The laws of closing.
pub mod Ends
pub mod Holders
pub mod Laws
pub mod Says
pub mod Promise
