pub mod Stored
pub mod Value
pub mod Stamp
pub mod Step
pub mod Walk
pub mod Append
