pub mod Arguments
pub mod BehindOperands
pub mod Nests
pub mod Reading
