pub mod Index
pub mod Queues
pub mod Keys
pub mod Inside
