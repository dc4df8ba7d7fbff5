pub mod Fields
pub mod LineLaws
