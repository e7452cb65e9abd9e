-- What callers of this crate name of `kq_engine_prepare`.
pub use Rattle.kq_engine_prepare.proofs.Accepting
pub use Rattle.kq_engine_prepare.proofs.Failing
pub use Rattle.kq_engine_prepare.proofs.Telling
