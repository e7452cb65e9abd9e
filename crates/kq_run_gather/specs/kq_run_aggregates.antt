-- What callers of this crate name of `kq_run_aggregates`.
pub use Rattle.kq_run_aggregates.specs.Aggregates
