pub mod Lines
pub mod Forms
pub mod Scripts
pub mod Steps
pub mod Answers
pub mod Laws
pub mod proving
