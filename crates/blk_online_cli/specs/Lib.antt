pub mod ByRounds
pub mod Shortfalls
pub mod Told
pub mod Inside
