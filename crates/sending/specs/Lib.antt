-- What the tray holds after a record was sent to each box that is meant, and how ready jobs go out turn by turn.
pub mod Sends
pub mod Turns
