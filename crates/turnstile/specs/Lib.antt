pub mod Known
pub mod Turns
pub mod Names
pub mod proving
