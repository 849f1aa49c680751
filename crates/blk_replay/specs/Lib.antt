pub mod Replay
pub mod Inside
pub mod Requests
pub mod DueFirst
pub mod Figures
