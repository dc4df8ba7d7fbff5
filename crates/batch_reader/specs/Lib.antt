pub mod Reading
pub mod Streaming
pub mod proving
