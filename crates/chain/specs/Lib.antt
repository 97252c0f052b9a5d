pub mod Cipher
pub mod Modes
pub mod Decryption
pub mod Memory
pub mod Twofish
pub mod Blocks
