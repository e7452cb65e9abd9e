pub mod Flows
pub mod Scopes
pub mod Operators
pub mod Clauses
pub mod Seen
pub mod kq_bind_clauses
pub mod kq_bind_columns
pub mod kq_read_meanings
