pub mod Operators
pub mod Ran
pub mod Pieces
pub mod kq_eval_pieces
pub mod kq_eval_row
pub mod kq_run_reshape
