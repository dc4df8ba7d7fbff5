-- What only serves proofs: no public contract stands on it.
pub mod Apart
pub mod Faults
pub mod Joining
pub mod Pieces
pub mod Pushing
pub mod Keeping
pub mod Streaming
