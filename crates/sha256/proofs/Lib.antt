pub mod Bitwise
pub mod Schedule
pub mod Digest
pub mod Pieces
pub mod Padding
pub mod Keys
pub mod Padded
