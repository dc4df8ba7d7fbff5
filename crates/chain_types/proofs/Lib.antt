mod Numbered
mod Resolved
mod TooLong
