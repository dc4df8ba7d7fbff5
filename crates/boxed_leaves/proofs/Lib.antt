pub mod Making
pub mod Arms
