pub mod Faults
pub mod HasRead
pub mod Records
pub mod RowLemmas
mod Stops
pub mod TagLemmas
pub mod Taking
pub mod Texts
pub mod TokenLemmas
