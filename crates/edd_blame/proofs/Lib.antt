pub mod Clocks
pub mod Causing
pub mod Adding
pub mod Stalling
pub mod Fitting
pub mod Parting
pub mod Beside
pub mod Marking
