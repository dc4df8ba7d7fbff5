pub mod Lines
pub mod Queries
pub mod Laws
