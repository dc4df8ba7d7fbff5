pub mod History
pub mod Legal
