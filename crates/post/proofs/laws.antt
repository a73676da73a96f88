-- The laws of post.
pub mod Posting
pub mod Index
