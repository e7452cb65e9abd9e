pub mod Blocks
pub mod Lines
pub mod Readers
pub mod Scripts
pub mod Splits
