pub mod Tags
pub mod Steps
pub mod Kinds
pub mod Inside
