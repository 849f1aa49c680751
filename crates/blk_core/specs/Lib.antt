pub mod Opens
pub mod State
pub mod Faults
pub mod Names
pub mod Calls
pub mod Tries
pub mod Inside
pub mod Runs
