pub mod Glue
pub mod Few
pub mod Counting
pub mod Pushing
pub mod Placing
pub mod Waiting
pub mod Laxer
pub mod Serving
