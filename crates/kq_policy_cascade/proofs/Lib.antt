pub mod Cascading
pub mod Following
pub mod Listing
pub mod Querying
pub mod Stepping
