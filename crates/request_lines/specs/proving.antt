-- What only serves proofs: no public contract stands on it.
pub mod Judging
pub mod Letters
pub mod Reads
