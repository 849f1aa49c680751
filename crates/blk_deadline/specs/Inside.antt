-- What clauses of parts of a pick and proofs alone need.
pub mod Parts
