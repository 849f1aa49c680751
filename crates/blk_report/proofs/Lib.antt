pub mod Within
pub mod Leading
pub mod Tables
pub mod Requests
pub mod Halving
pub mod Waiting
pub mod Ranks
pub mod Verdicts
