mod Images
mod Rules
pub mod Found
mod Numbered
