pub mod Sorts
pub mod Joins
pub mod Unions
pub mod Tables
pub mod Ranges
pub mod Seen
pub mod kq_bind_columns
pub mod kq_bind_expressions
