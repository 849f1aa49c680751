pub mod Words
pub mod Layouts
pub mod Lines
pub mod Names
pub mod Steps
pub mod Detected
pub mod Inside
