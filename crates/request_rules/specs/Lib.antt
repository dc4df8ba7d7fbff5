pub mod Turns
pub mod Tables
pub mod Selects
pub mod Views
pub mod Answers
