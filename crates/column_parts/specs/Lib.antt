pub mod Cuts
pub mod NumberLists
pub mod Stores
