mod Pending
mod Entering
mod Serving
mod Between
mod Legal
mod Alone
mod Entrants
mod Decided
pub mod Outcomes
