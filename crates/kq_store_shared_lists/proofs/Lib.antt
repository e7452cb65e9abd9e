pub mod Rows
pub mod Joined
pub mod Around
pub mod Sent
