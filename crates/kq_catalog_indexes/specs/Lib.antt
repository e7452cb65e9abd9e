pub mod Index
pub mod Places
pub mod Tags
pub mod TagTrees
