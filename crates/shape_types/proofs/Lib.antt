mod Arms
mod Refused
mod InOrder
mod AtPlaces
mod PlainNames
pub mod ShortTexts
pub mod LegalTypes
mod AllowedParts
