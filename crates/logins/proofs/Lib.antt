mod Checks
mod Fills
pub mod Answered
mod Verdict
mod Fitting
mod Expiry
pub mod Promises
mod Cases
