-- What callers of this crate name of `kq_catalog`.
pub use Rattle.kq_catalog.specs.Seen
