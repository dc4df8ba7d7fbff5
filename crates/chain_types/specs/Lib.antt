pub mod Calls
pub mod proving
