pub mod Rows
pub mod Served
pub mod Sets
pub mod Tuples
pub mod proving
