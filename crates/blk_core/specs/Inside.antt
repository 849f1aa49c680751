-- What private functions, invariants and proofs need, and no promise names.
pub mod Ties
pub mod Calls
