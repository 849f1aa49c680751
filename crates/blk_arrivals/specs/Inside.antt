-- What private functions and proofs alone need.
pub mod Coming
pub mod Effects
pub mod Plugs
pub mod Scripts
