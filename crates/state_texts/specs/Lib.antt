pub mod Figures
pub mod Versions
pub mod Texts
pub mod Spelled
pub mod Laws
pub mod proving
