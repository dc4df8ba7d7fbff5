pub mod Arguments
pub mod Masks
pub mod Entries
pub mod ValueHeights
pub mod NumberLaws
pub mod Growing
