pub mod Named
pub mod Kept
pub mod Narrow
pub mod Plans
pub mod Rows
