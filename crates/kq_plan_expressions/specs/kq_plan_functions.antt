-- What callers of this crate name of `kq_plan_functions`.
pub use Rattle.kq_plan_functions.specs.Table
pub use Rattle.kq_plan_functions.specs.declared.function.Function
pub use Rattle.kq_plan_functions.specs.declared.function.Function.TheVariants
