pub mod Texts
pub mod kq_value_conversions
