-- The files of running_states, in reading order.
pub mod Served
pub mod Trees
pub mod Shapes
pub mod Words
pub mod Entries
