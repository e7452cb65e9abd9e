-- What callers of this crate name of `kq_eval_row`.
pub use Rattle.kq_eval_row.specs.Applied
pub use Rattle.kq_eval_row.specs.Val
