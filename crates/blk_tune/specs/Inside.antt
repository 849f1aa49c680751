pub mod Order
pub mod Row
