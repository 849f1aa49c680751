pub mod Capacity
pub mod Schedule
pub mod Inside
pub mod Order
pub mod Faults
