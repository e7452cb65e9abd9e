-- What callers of this crate name of `kq_run_reshape`.
pub use Rattle.kq_run_reshape.proofs.Parted
pub use Rattle.kq_run_reshape.proofs.Typed
