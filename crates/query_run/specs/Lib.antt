pub mod Outcome
pub mod Runs
pub mod Laws
pub mod proving
