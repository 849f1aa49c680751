-- What only clauses of the parts of a pick need, and how limits are kept.
pub mod Parts
pub mod Limits
