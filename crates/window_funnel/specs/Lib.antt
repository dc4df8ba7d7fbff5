pub mod Conditions
pub mod proving
