-- What private functions and proofs alone need.
pub mod Read
pub mod Ends
pub mod FirstBroken
