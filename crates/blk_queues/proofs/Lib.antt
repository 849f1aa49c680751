pub mod Joining
pub mod Slices
pub mod Counts
pub mod Counting
