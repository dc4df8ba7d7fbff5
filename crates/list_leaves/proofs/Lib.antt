pub mod Arrays
pub mod InOrder
pub mod Items
pub mod KeptLaws
pub mod Quantiles
pub mod Serving
