pub mod Fronts
pub mod ResultTypes
