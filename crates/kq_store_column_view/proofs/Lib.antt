pub mod Bagged
pub mod Masked
pub mod Picking
