-- What private functions and proofs alone need.
pub mod Taking
pub mod Along
