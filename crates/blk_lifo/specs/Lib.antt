pub mod Stacks
pub mod Inside
