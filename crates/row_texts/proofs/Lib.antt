mod Reading
pub mod OneRow
