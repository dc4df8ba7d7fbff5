pub mod Digits
pub mod HexTexts
pub mod TypeKinds
pub mod Bytes
