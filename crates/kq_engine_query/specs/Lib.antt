pub mod Views
pub mod Worlds
pub mod Printed
pub mod Answers
pub mod kq_run_scan
