-- What proofs alone need.
pub mod Laws
