pub mod Faults
pub mod Laws
pub mod Places
pub mod Widths
pub mod kq_eval_pieces
pub mod kq_run_reshape
pub mod kq_eval_row
