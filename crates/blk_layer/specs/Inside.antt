-- What invariants and proofs need, and no promise names.
pub mod Seats
pub mod Submitting
pub mod Serving
pub mod Next
pub mod Closing
