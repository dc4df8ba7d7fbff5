pub mod Tuples
pub mod IntervalPlaces
