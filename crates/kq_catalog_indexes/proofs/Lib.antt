pub mod Places
pub mod Sorted
pub mod Indexed
pub mod Tagged
pub mod Sent
