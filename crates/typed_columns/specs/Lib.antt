pub mod TypedValues
pub mod Masks
pub mod Height
pub mod Views
pub mod Falls
pub mod Items
pub mod Growth
pub mod proving
