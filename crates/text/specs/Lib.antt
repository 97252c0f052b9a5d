pub mod Grammar
pub mod GoesWrong
pub mod Decision
