-- What callers of this crate name of `kq_engine`.
pub use Rattle.kq_engine.proofs.Counting
pub use Rattle.kq_engine.proofs.Crossing
pub use Rattle.kq_engine.proofs.Owning
