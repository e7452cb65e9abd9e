-- What callers of this crate name of `kq_value_strings`.
pub use Rattle.kq_value_strings.specs.declared.find.FindKind.TheVariants
