-- The tests of a sound box place by place, as the code goes through them.
pub mod Lists
pub mod Pairs
