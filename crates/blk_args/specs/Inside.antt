-- What private functions and proofs alone need.
pub mod Options
pub mod Tables
