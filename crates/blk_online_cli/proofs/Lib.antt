mod Growing
mod Agreeing
mod Quiet
mod Issuing
mod Working
pub mod Running
pub mod Reporting
mod Ending
mod Telling
