-- What private functions and proofs alone need.
pub mod Digits
pub mod Taken
