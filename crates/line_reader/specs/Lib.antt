pub mod Taking
pub mod Limits
pub mod Ahead
pub mod Filling
pub mod Answers
pub mod proving
