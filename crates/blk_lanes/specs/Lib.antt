pub mod Shown
pub mod Facts
pub mod Held
