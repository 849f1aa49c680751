-- What private functions and proofs alone need.
pub mod Order
