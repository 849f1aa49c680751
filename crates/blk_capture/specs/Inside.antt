-- What private functions and proofs alone need: where requests wait, what records are of, and how those that are taken are found.
pub mod Members
pub mod LookupKeys
pub mod Indexes
pub mod Roles
pub mod Coherent
pub mod Matchings
pub mod Taken
pub mod Tallies
pub mod Figures
pub mod Partly
