pub mod Digits
pub mod Fits
pub mod Found
pub mod Only
pub mod Law
