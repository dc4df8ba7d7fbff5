pub mod Below
pub mod Ends
pub mod Seen
pub mod Taken
pub mod Ended
