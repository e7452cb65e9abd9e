pub mod Over
pub mod Quiet
pub mod Reading
pub mod World
