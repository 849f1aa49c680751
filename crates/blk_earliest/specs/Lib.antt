pub mod Choice
pub mod Shown
pub mod Inside
