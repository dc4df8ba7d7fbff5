mod WordsRead
mod KindNames
pub mod Found
pub mod Only
mod Judged
pub mod OneType
