-- What callers of this crate name of `kq_eval_pieces`.
pub use Rattle.kq_run_row_operators.proofs.kq_eval_pieces.Laws
