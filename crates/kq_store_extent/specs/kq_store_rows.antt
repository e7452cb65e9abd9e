-- What callers of this crate name of `kq_store_rows`.
pub use Rattle.kq_store_rows.specs.Widened
