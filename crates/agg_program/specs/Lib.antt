pub mod Exits
pub mod Program
pub mod proving
