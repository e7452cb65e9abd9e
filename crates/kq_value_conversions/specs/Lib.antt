pub mod Converted
pub mod Parts
pub mod kq_value_formats
