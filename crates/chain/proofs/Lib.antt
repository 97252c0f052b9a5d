pub mod Through
pub mod ModeLaws
pub mod StepLaws
pub mod MemoryLaws
pub mod BlockLaws
pub mod InPlace
pub mod Turns
pub mod TwofishLaws
