pub mod Names
pub mod Values
pub mod Parts
pub mod Lines
pub mod Json
pub mod Same
pub mod Inside
