-- What callers of this crate name of `kq_engine_prepare`.
pub use Rattle.kq_engine_prepare.specs.Fits
pub use Rattle.kq_engine_prepare.specs.Folds
pub use Rattle.kq_engine_prepare.specs.Merges
