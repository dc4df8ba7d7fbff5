pub mod Letters
pub mod Tables
pub mod Selects
pub mod ScriptLines
pub mod Views
pub mod Answers
pub mod Laws
