pub mod Coming
pub mod Effects
pub mod Plugs
pub mod Scripts
pub mod Brought
pub mod Names
pub mod Staged
pub mod Inside
