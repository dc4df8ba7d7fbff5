pub mod Reads
pub mod TypeTexts
pub mod Judging
pub mod Syntax
