-- What only serves proofs: no public contract stands on it.
pub mod Packed
pub mod Texts
pub mod Placed
