pub mod Exported
pub mod Names
pub mod Ranges
pub mod Ledgers
