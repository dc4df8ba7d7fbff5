pub mod Funnels
pub mod Kept
pub mod Matches
pub mod Rows
pub mod Served
pub mod proving
