-- What clauses of private functions alone need.
pub mod Lists
