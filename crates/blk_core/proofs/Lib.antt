mod Pushed
mod Seen
mod Waits
mod Flights
mod RequeueLists
mod Requeued
mod Flown
mod Ties
mod Sent
mod Ended
mod Opens
mod Listed
mod IssuedNow
pub mod More
