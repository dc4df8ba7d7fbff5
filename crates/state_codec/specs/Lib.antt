pub mod Reading
pub mod Laws
pub mod Gives
pub mod Codec
pub mod proving
