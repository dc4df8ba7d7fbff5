pub mod Wide
pub mod Fitted
pub mod Funnels
pub mod Functions
pub mod Links
pub mod Meanings
