-- What callers of this crate name of `kq_bind_expressions`.
pub use Rattle.kq_bind_expressions.specs.Verdicts
