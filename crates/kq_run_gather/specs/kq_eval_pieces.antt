-- What callers of this crate name of `kq_eval_pieces`.
pub use Rattle.kq_run_scan.specs.kq_eval_pieces.Operators
pub use Rattle.kq_run_scan.specs.kq_eval_pieces.Pieces
