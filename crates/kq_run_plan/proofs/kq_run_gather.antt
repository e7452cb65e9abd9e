-- What callers of this crate name of `kq_run_gather`.
pub use Rattle.kq_run_gather.proofs.Stepped
