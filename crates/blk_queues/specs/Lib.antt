pub mod Plugs
pub mod Names
pub mod Answers
pub mod Queues
pub mod Maps
pub mod Requeued
pub mod Inside
