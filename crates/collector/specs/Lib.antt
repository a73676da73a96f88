-- The face of a box: its promises, what they say together, and what a box that fits them is.
pub mod Promises
pub mod Face
pub mod Leaves
pub mod Unfit
