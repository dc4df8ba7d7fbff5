pub use Rattle.scalar_texts.specs.States
pub mod Elements
pub mod Answer
pub mod OneAnswer
pub mod Writing
pub mod ReadBack
pub mod proving
