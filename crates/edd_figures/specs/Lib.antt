pub mod Figures
pub mod Misses
pub mod Inside
pub mod Answers
