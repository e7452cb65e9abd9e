-- What callers of this crate name of `kq_eval_row`.
pub use Rattle.kq_eval_row.proofs.Meant
pub use Rattle.kq_eval_row.proofs.Typed
