pub mod Marks
pub mod Found
pub mod Only
pub mod Law
pub mod Samples
pub mod Stacks
pub mod Judged
