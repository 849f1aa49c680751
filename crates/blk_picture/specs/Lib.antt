pub mod Made
pub mod Boxes
pub mod Scales
pub mod Columns
pub mod Cuts
pub mod Pictures
pub mod Sums
pub mod Inside
