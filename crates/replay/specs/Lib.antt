pub mod Trace
pub mod Cancelled
pub mod Acceptance
pub mod State
pub mod Replay
pub mod Waiting
pub mod Answers
pub mod Calls
