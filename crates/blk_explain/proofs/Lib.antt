pub mod Walks
pub mod Taking
pub mod Found
pub mod Sized
pub mod Worded
