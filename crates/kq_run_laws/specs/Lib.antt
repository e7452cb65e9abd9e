pub mod Arrays
pub mod Dates
pub mod Groups
pub mod Objects
pub mod Sorts
pub mod Splits
