-- What callers of this crate name of `kq_run_row_operators`.
pub use Rattle.kq_run_row_operators.proofs.Laws
