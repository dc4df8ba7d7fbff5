pub mod Jobs
pub mod proving
