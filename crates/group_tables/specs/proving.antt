-- What only serves proofs: no public contract stands on it.
pub mod Fed
pub mod Joined
pub mod Rows
pub mod Lines
