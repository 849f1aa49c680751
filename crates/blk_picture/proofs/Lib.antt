pub mod Made
pub mod Walk
pub mod Counting
pub mod Joining
pub mod Adding
pub mod Fitting
