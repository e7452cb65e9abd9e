-- What callers of this crate name of `kq_value_conversions`.
pub use Rattle.kq_value_string_functions.specs.kq_value_conversions.Converted
pub use Rattle.kq_value_string_functions.specs.kq_value_conversions.Parts
