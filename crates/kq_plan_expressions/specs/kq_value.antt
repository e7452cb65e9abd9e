-- What callers of this crate name of `kq_value`.
pub use Rattle.kq_plan_functions.specs.kq_value.Field
pub use Rattle.kq_plan_functions.specs.kq_value.TheVariants
pub use Rattle.kq_plan_functions.specs.kq_value.Ty
pub use Rattle.kq_plan_functions.specs.kq_value.Typed
pub use Rattle.kq_plan_functions.specs.kq_value.Value
