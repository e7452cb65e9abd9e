-- What callers of this crate name of `kq_value_formats`.
pub use Rattle.kq_value_formats.specs.Datetimes
