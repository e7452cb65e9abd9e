pub mod Added
pub mod Chain
