pub mod EachOnce
pub mod Names
