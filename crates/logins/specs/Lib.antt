pub mod Record
pub mod Export
pub mod Says
pub mod Answers
