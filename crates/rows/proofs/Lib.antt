mod Zero
pub mod Sevenbit
pub mod Rounding
mod Padding
mod Assembly
mod Columns
mod Taking
pub mod Texts
pub mod Back
pub mod Tables
pub mod Promises
mod Cases
