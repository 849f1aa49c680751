pub mod Names
pub mod Seats
pub mod Submitting
pub mod Serving
pub mod Rounds
pub mod Runs
pub mod Closing
pub mod Inside
