mod Quotes
mod Digits
mod Skips
