-- Demand 3 and the regulator's sentence, stated of every rehearsal over the bytes of its post, and of what the program shows.
pub mod Turns
pub mod Runs
pub mod Words
pub mod Demand3
pub mod ShownWords
pub mod Shown
