pub mod HasType
pub mod Operations
pub mod Terms
pub mod kq_plan_functions
pub mod kq_value
