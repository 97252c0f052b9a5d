pub mod Counts
pub mod FirstBlocks
