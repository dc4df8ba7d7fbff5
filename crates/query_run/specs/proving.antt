-- What only serves proofs: no public contract stands on it.
pub mod Heads
pub mod Feeding
pub mod Answering
