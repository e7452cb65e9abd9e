-- What callers of this crate name of `kq_plan_expressions`.
pub use Rattle.kq_plan_expressions.specs.Terms
