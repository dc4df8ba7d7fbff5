pub mod Views
pub mod Sessions
pub mod Folds
pub mod Laws
