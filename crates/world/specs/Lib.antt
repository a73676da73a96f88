-- The world: all boxes of a plan and all records ever sent, one order after the other.
pub mod World
