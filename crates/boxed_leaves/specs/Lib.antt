pub mod Boxed
pub mod Served
