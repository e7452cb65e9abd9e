-- What callers of this crate name of `kq_eval_row`.
pub use Rattle.kq_run_scan.proofs.kq_eval_row.Meant
pub use Rattle.kq_run_scan.proofs.kq_eval_row.Typed
