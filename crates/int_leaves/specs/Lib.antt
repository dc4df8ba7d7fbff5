pub mod Parts
pub mod Rows
pub mod Served
pub mod Words
