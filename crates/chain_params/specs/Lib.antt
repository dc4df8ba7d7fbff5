pub mod Faults
pub mod Literals
