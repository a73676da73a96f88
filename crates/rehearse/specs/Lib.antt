-- Which bytes the rehearse program prints for an input, in whatever pieces it comes, and what a run of the program is.
pub mod Printed
pub mod Turns
