-- What callers of this crate name of `kq_engine`.
pub use Rattle.kq_engine.specs.Shared
pub use Rattle.kq_engine.specs.kq_engine_prepare.Fits
