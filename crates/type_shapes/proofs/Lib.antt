mod Digits
mod Quotes
pub mod Values
pub mod OneText
mod Fronts
mod TypesRead
mod ListsRead
mod FoldLaws
mod Lists
mod WholeRead
mod TokensBack
mod Printed
mod PrintedTypes
mod RoundTrip
pub mod OneShape
