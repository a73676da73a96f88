-- The laws of rehearse.
pub mod Printed
pub mod Turns
pub mod Laws
pub mod Program
