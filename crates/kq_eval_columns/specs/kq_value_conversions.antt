-- What callers of this crate name of `kq_value_conversions`.
pub use Rattle.kq_eval_row.specs.kq_value_conversions.Converted
