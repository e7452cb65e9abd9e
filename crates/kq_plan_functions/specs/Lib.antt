pub mod Table
pub mod Seen
pub mod Names
pub mod kq_value
pub mod kq_value_strings
