mod Least
mod Most
pub mod Splitting
mod Staying
mod Ticking
pub mod Laws
mod AtIssues
