pub mod Served
pub mod Numbers
