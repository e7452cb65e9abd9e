-- What callers of this crate name of `kq_plan_functions`.
pub use Rattle.kq_plan_expressions.specs.kq_plan_functions.Function
pub use Rattle.kq_plan_expressions.specs.kq_plan_functions.TheVariants
