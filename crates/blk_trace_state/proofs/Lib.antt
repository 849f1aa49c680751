pub mod Reading
pub mod Entering
pub mod Standing
pub mod Stepping
pub mod Replaying
pub mod Projecting
pub mod Reports
