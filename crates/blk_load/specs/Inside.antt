-- What private clauses and proofs need, and no promise names.
pub mod Faults
pub mod Loads
pub mod Outcomes
pub mod Ran
