pub mod Lists
pub mod Stack
