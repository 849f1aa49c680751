pub mod Judged
pub mod Late
pub mod Answers
pub mod Drawing
