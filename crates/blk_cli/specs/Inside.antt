-- What private functions and proofs alone need.
pub mod Certificates
pub mod Ends
