pub mod Applied
pub mod Seen
pub mod Val
pub mod kq_value_string_functions
pub mod kq_value_conversions
