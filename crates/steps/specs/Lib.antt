-- A record of any kind: how it is answered, and what a step of it needs.
pub mod Acting
pub mod Judged
pub mod Judging
pub mod Said
