pub mod Bests
pub mod Ordered
pub mod Places
