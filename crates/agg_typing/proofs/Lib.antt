pub mod Examples
mod Refusals
mod FirstRefusal
pub mod Reading
pub mod Same
pub mod Tests
pub mod Reaching
pub mod Formed
pub mod Inward
pub mod Soundness
pub mod Results
pub mod Patterns
pub mod Allowed
