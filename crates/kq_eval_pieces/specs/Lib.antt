pub mod Numbers
pub mod Operators
pub mod Pieces
pub mod Sources
pub mod Words
pub mod kq_eval_row
pub mod kq_value_arithmetic
pub mod kq_plan_expressions
