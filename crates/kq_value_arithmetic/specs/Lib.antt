pub mod Arithmetic
pub mod Comparing
pub mod Logic
pub mod Numbers
pub mod kq_value_formats
