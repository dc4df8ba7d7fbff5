pub mod Said
pub mod Lent
pub mod ByPlace
pub mod OneArgument
pub mod Columned
pub mod Inside
