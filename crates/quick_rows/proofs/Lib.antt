pub mod FieldLaws
pub mod FirstLaws
pub mod FrontDigits
pub mod Fronts
pub mod HexFronts
pub mod Lines
pub mod ListLaws
pub mod Numbers
pub mod RowLaws
pub mod States
pub mod Walks
pub mod KeptRows
mod Steps
