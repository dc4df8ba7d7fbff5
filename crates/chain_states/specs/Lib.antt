-- The files of chain_states, in reading order.
pub mod Ready
pub mod Calls
pub mod proving
