-- What private functions and proofs alone need.
pub mod Working
pub mod Given
pub mod Places
pub mod Codes
pub mod Limits
