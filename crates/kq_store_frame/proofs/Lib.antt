pub mod Across
pub mod Sent
