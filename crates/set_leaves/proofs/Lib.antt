pub mod Hashing
pub mod Keys
pub mod Serving
pub mod SetLaws
pub mod States
