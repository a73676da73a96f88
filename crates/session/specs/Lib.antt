-- The session: the plan while its lines come, what one line does, the world that it stands in, and what is promised of the input in any pieces.
pub mod Desk
pub mod Heard
pub mod AsTyped
pub mod Hears
pub mod World
pub mod Asked
pub mod Turned
pub mod Session
pub mod Promises
pub mod Whole
