pub mod Uuids
pub mod Table
pub mod Batches
