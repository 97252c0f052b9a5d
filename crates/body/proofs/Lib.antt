pub mod Division
pub mod Visits
mod Distinct
pub mod Decided
mod Marks
mod Sums
mod OnceTypes
mod Verdict
pub mod Along
pub mod Sectioned
pub mod UuidsAhead
mod Judging
pub mod Ahead
mod Keeps
mod FirstField
mod Stands
mod UuidValue
mod Hunt
mod Searched
pub mod Answers
mod Halves
pub mod FindCall
mod Deciding
pub mod FindCount
pub mod Kept
pub mod Cases
