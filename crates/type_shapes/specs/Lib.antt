pub mod Literals
pub mod Shapes
pub mod Folds
pub mod Answer
pub mod OneShape
pub mod Reading
pub mod ReadsBack
