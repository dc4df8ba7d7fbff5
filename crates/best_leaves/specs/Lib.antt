pub mod Best
pub mod Made
pub mod Rows
pub mod Served
pub mod States
