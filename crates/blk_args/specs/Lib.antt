pub mod Options
pub mod CommandLine
pub mod Times
pub mod Lists
pub mod Takers
pub mod Asked
pub mod Plain
pub mod Inside
