pub mod Field
pub mod Q
pub mod Key
pub mod Cipher
pub mod Twofish
pub mod Columns
pub mod Tabled
pub mod Beside
