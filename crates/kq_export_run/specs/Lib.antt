pub mod Bound
pub mod Held
pub mod Runs
pub mod Serving
pub mod kq_export_ranges
