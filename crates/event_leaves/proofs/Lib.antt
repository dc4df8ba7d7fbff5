pub mod EventLists
pub mod EventStates
pub mod Funnels
pub mod InOrder
pub mod Masks
pub mod Matches
pub mod Serving
