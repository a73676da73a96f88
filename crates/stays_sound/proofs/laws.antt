-- The laws of stays_sound.
pub mod Laws
pub mod Listing
pub mod Fresh
pub mod Sends
pub mod Size
pub mod Changes
pub mod Goods
pub mod HandOut
pub mod Merge
pub mod Leads
pub mod KeptStamps
pub mod Jobs
pub mod Steps
