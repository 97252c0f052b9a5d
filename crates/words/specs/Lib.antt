pub mod Numbers
pub mod Rotation
pub mod Xor
pub mod Slices
pub mod Hex
pub mod Table
pub mod Each
pub mod Members
