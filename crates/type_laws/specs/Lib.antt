pub mod Patterns
pub mod Types
