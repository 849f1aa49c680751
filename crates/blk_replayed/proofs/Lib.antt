mod Counted
mod Earliest
mod Late
mod Scheduled
mod Starts
mod Told
mod Turns
