pub mod Numbers
pub mod Cutting
pub mod Reading
pub mod Detecting
pub mod Wholes
