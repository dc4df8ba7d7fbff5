pub mod Outcomes
pub mod Layers
pub mod Functions
pub mod KeyOrder
pub mod DistinctRows
