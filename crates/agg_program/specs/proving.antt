-- What only serves proofs: no public contract stands on it.
pub mod Refusing
