-- What proofs alone need.
pub mod Placed
