pub mod Inside
pub mod Row
pub mod Order
pub mod Answers
pub mod Tuned
