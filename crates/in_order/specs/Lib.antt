-- Demand 3 as a regulator reads it: its words, and what it says of every run of a plan. Nothing is proved here.
pub mod Words
pub mod Demand3
