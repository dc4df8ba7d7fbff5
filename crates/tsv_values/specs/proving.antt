-- What only serves proofs: no public contract stands on it.
pub mod Height
pub mod Reading
pub mod Steps
