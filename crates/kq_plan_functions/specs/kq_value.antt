-- What callers of this crate name of `kq_value`.
pub use Rattle.kq_value.specs.Typed
pub use Rattle.kq_value.specs.declared.schema.Field
pub use Rattle.kq_value.specs.declared.ty.Ty
pub use Rattle.kq_value.specs.declared.ty.Ty.TheVariants
pub use Rattle.kq_value.specs.declared.value.Value
