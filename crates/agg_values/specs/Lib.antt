pub use Rattle.value_types.specs.Folds
pub mod Peels
pub mod proving
