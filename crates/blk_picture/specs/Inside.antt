-- What invariants and proofs alone need.
pub mod Counted
