-- What private functions and proofs alone need.
pub mod Below
pub mod Waited
pub mod Best
pub mod Services
