pub mod Limits
pub mod Choice
pub mod State
pub mod Shown
pub mod Inside
pub mod Names
