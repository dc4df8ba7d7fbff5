mod Cuts
mod Placed
mod Places
mod ShortLines
mod Stepped
mod Read
mod OneScript
mod ViewsFound
