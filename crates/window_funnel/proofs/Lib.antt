pub mod Cuts
pub mod Reaches
pub mod Tables
pub mod Joined
