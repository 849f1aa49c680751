mod Best
mod Turns
