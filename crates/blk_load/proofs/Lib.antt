pub mod Seated
pub mod Counted
pub mod Made
mod Ruled
