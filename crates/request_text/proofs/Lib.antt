pub mod ShortLines
mod LegalColumns
mod OneAnswer
mod Told
