pub mod Rows
pub mod Order
pub mod Replays
pub mod Answers
pub mod Text
pub mod Shown
pub mod Inside
