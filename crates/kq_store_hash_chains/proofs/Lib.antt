pub mod Chains
pub mod Search
pub mod Walks
