-- What private functions and proofs alone need.
pub mod Any
pub mod Cells
pub mod Fields
pub mod Sources
pub mod Certificate
pub mod Proof
pub mod Schedule
