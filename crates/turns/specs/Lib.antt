pub mod Turns
pub mod Inside
