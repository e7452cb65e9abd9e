pub mod Depth
pub mod Nests
pub mod Places
pub mod Reading
