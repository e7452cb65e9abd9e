pub mod Calendar
pub mod kq_value_time
