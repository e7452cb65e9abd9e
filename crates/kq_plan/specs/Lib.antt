pub mod Names
pub mod Plans
pub mod Fits
pub mod kq_plan_functions
