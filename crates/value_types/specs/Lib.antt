pub mod Folds
pub mod Images
pub mod OneToOne
pub mod Words
