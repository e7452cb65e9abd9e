-- What callers of this crate name of `kq_value_string_functions`.
pub use Rattle.kq_value_string_functions.specs.Texts
