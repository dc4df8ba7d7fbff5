mod Patterns
mod Levels
mod Params
mod Fitting
mod Calls
mod Types
