-- What callers of this crate name of `kq_value_arithmetic`.
pub use Rattle.kq_value_arithmetic.specs.Logic
