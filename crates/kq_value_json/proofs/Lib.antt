pub mod Collected
pub mod Deep
pub mod Kept
pub mod Places
