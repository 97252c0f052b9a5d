pub mod Steps
mod Same
mod Members
mod Passes
mod Batches
mod Cases
pub mod OneAnswer
