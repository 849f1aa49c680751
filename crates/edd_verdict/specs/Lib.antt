pub mod Filled
pub mod Verdicts
pub mod Laws
pub mod Inside
