pub mod Functions
pub mod Arguments
pub mod Made
pub mod Gathered
pub mod Unsupported
pub mod Seen
