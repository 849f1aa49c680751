pub mod Lines
pub mod Plain
mod Grown
mod Listed
mod Timed
mod Taken
mod Sources
