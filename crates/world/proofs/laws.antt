-- The laws of world.
pub mod Fresh
pub mod Boxes
pub mod Reached
pub mod Answers
