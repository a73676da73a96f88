-- The laws of jobs.
pub mod Steps
