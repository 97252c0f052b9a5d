pub mod V3Laws
mod Slots
mod HandedOn
mod Verdicts
mod Laying
mod Writes
mod Contracts
pub mod Told
pub mod Acceptance
mod Stretching
mod Settled
pub mod Instances
pub mod Demands
pub mod Cases
