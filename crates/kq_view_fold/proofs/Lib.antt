pub mod Bodied
pub mod Folding
pub mod kq_run_gather
