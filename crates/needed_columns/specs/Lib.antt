pub mod Columns
pub mod Sameness
