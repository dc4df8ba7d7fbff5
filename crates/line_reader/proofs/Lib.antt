mod Ranges
pub mod Lines
mod Next
pub mod Filled
mod Grown
pub mod Handed
mod Found
mod Lined
