mod Starts
pub mod Turns
