pub mod ColumnSums
pub mod Permutations
pub mod Pairs
pub mod Rounds
pub mod Inverse
pub mod Lookups
pub mod Keyed
pub mod Steps
