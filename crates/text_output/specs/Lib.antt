pub mod Drafts
pub mod Parts
pub mod Outputs
pub mod Inside
