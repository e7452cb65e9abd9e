-- What callers of this crate name of `kq_run_aggregates`.
pub use Rattle.kq_run_aggregates.specs.Aggregates
pub use Rattle.kq_run_aggregates.specs.Holds
pub use Rattle.kq_run_aggregates.specs.Steps
pub use Rattle.kq_run_aggregates.specs.Tables
pub use Rattle.kq_run_aggregates.specs.declared.kind.Kind
