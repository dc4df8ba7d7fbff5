pub mod Kinds
pub mod Figures
pub mod KeyBytes
pub mod Hash
pub mod Keys
pub mod Tuples
pub mod Laws
pub mod proving
