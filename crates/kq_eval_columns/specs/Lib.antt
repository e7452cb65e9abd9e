pub mod Choices
pub mod Over
pub mod Seen
pub mod Vectors
pub mod kq_value_conversions
pub mod kq_eval_row
pub mod kq_plan_functions
pub mod kq_value_arithmetic
