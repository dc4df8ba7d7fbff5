pub mod Back
pub mod Front
pub mod Plans
