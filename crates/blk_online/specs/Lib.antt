pub mod OnTimeFirst
pub mod DueFirst
pub mod Ticks
pub mod Best
pub mod Issues
