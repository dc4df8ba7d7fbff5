pub mod Widened
pub mod Parts
pub mod Rows
pub mod Calls
