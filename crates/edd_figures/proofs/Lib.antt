pub mod Windows
pub mod Tardy
pub mod Within
pub mod Spares
