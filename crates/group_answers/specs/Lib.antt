pub mod Answers
pub mod proving
