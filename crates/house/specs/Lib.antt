-- Document 01, 'Numbers': limits, stamps and ballots, the plan, marks of boxes and quorums of them.
pub mod Limits
pub mod Pairs
pub mod Plan
pub mod Marks
