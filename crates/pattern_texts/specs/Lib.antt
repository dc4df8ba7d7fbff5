pub mod Texts
pub mod Machine
pub mod Answer
