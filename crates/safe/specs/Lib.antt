pub mod V3
pub mod Answers
pub mod Calls
pub mod Steps
pub mod Laying
