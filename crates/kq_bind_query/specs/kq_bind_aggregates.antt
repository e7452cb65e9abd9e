-- What callers of this crate name of `kq_bind_aggregates`.
pub use Rattle.kq_bind_aggregates.specs.Gathered
