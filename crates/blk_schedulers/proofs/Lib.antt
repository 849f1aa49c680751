pub mod Unmade
pub mod Entered
pub mod Found
mod Compared
pub mod Tries
