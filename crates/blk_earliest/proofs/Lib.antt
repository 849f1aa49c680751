pub mod Listing
pub mod Chosen
