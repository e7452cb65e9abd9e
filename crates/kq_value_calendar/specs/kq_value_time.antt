-- What callers of this crate name of `kq_value_time`.
pub use Rattle.kq_value_time.specs.declared.unit.Unit.TheVariants
