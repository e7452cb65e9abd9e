-- What callers of this crate name of `kq_bind_expressions`.
pub use Rattle.kq_bind_expressions.specs.Apply
pub use Rattle.kq_bind_expressions.specs.Bound
pub use Rattle.kq_bind_expressions.specs.Lookup
pub use Rattle.kq_bind_expressions.specs.Names
pub use Rattle.kq_bind_expressions.specs.Unsupported
pub use Rattle.kq_bind_expressions.specs.Verdicts
