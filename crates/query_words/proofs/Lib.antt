pub mod Settings
pub mod Ranges
pub mod Numerals
