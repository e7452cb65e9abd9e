-- What callers of this crate name of `kq_bind_clauses`.
pub use Rattle.kq_bind_clauses.specs.Joins
