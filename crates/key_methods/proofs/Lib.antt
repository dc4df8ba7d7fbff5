pub mod Figures
pub mod Columns
pub mod Fronts
pub mod Numbers
pub mod SideBySide
pub mod SmallKinds
pub mod Undone
