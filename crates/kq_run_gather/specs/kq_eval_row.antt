-- What callers of this crate name of `kq_eval_row`.
pub use Rattle.kq_run_scan.specs.kq_eval_row.Val
