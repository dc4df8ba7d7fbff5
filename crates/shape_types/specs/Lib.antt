pub mod Types
pub mod Countable
pub mod Legal
pub mod AllowedParts
