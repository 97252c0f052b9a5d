mod Bytewise
pub mod Grammar
mod Ends
mod Greatest
pub mod GoesWrong
pub mod Cases
