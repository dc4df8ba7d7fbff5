pub mod AllJudged
mod Images
mod InTurn
mod KnownTypes
mod Places
mod Refused
pub mod PlansFit
