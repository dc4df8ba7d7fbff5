pub mod Generic
pub mod Lists
pub mod Sorting
pub mod Ordered
pub mod Deciding
pub mod Fitting
pub mod Comparing
