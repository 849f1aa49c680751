pub mod Given
pub mod ById
pub mod Serials
pub mod IdSet
pub mod Inside
