pub mod Figures
pub mod Versions
pub mod Trees
pub mod Short
pub mod Legal
pub mod Written
pub mod WrittenLinks
