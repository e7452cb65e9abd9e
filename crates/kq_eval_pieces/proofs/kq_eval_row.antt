-- What callers of this crate name of `kq_eval_row`.
pub use Rattle.kq_eval_columns.proofs.kq_eval_row.Meant
pub use Rattle.kq_eval_columns.proofs.kq_eval_row.Typed
