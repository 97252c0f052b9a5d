pub mod Layout
pub mod Refusals
pub mod Edition
pub mod Description
pub mod Reading
pub mod Writing
