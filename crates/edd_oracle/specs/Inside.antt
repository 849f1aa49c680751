-- What invariants and proofs alone need.
pub mod Queue
pub mod Leave
pub mod Cover
pub mod Window
