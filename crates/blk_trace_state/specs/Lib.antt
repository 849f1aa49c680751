pub mod State
pub mod Replay
pub mod Reports
pub mod Rows
pub mod Laws
