-- What callers of this crate name of `kq_catalog`.
pub use Rattle.kq_engine.specs.kq_catalog.Seen
