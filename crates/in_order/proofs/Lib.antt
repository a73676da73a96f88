-- What the proofs of this room share, and what others may cite.
pub mod laws
