pub mod Dates
pub mod Parts
pub mod Units
pub mod kq_value_formats
