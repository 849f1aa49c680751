pub mod Comes
pub mod Keys
pub mod Stepping
pub mod Bringing
pub mod Spelling
pub mod Staging
