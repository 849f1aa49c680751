-- What invariants and proofs alone need: what a trace keeps, and what waits event by event.
pub mod Issues
pub mod Kept
pub mod Fields
pub mod Stored
pub mod Gathered
pub mod Changing
pub mod Seats
pub mod Allowed
