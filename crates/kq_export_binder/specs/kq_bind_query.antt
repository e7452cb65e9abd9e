-- What callers of this crate name of `kq_bind_query`.
pub use Rattle.kq_bind_query.specs.Queries
