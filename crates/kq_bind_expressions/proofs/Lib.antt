pub mod Supported
pub mod WellTyped
