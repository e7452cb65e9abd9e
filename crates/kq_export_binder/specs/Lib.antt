pub mod Answers
pub mod Bodies
pub mod Faults
pub mod kq_bind_query
pub mod kq_bind_expressions
pub mod kq_bind_supported
pub mod kq_view_body
