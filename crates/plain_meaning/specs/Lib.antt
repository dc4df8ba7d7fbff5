pub mod Chains
pub mod Inward
pub mod proving
