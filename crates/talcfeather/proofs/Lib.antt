pub mod InBytes
mod Keys
pub mod OneAnswer
pub mod AsRead
pub mod Demands
mod ValueSaid
pub mod TextSaid
pub mod StampSaid
pub mod FindSaid
pub mod LateEdits
pub mod LoginTable
