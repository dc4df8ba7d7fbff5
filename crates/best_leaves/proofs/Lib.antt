pub mod Making
pub mod Bests
pub mod Serving
pub mod States
pub mod Trees
