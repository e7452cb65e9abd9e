-- What callers of this crate name of `kq_value_conversions`.
pub use Rattle.kq_value_conversions.specs.Converted
pub use Rattle.kq_value_conversions.specs.Parts
