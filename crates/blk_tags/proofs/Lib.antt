pub mod Counts
pub mod Bits
pub mod Rule
pub mod Marked
pub mod Plain
mod Tries
