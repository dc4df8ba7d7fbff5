pub mod Calls
pub mod Groupings
pub mod Merging
pub mod Reading
pub mod Tables
pub mod proving
