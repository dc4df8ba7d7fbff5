pub mod Words
pub mod proving
