pub mod Lists
pub mod People
pub mod Stands
pub mod Coming
pub mod Acting
pub mod Joining
