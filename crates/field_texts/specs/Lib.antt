pub mod Syntax
pub mod Faults
pub mod Machine
pub mod proving
