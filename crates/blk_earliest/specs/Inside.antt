-- What private methods and proofs alone need: what a scheduler of this kind shows.
pub mod Shown
