-- What invariants and proofs alone need.
pub mod Tight
pub mod Open
