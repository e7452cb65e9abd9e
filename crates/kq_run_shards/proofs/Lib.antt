pub mod Beside
pub mod Ending
pub mod Sharding
