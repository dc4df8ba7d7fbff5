pub mod States
pub mod Numbers
pub mod Hex
pub mod Answer
