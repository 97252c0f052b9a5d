pub mod Login
pub mod Days
pub mod Fit
pub mod Plain
pub mod Laying
pub mod Import
pub mod Says
pub mod Answers
