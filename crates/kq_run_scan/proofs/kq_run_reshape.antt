-- What callers of this crate name of `kq_run_reshape`.
pub use Rattle.kq_run_row_operators.proofs.kq_run_reshape.Parted
pub use Rattle.kq_run_row_operators.proofs.kq_run_reshape.Typed
