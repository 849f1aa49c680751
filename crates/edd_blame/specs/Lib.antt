pub mod Clock
pub mod Causes
pub mod Sum
pub mod Parts
pub mod Inside
