pub mod Arrays
pub mod Kept
pub mod Limits
pub mod Quantiles
pub mod Rows
pub mod Served
