pub mod KeysWith
pub mod Fed
pub mod Merged
