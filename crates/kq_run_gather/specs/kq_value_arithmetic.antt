-- What callers of this crate name of `kq_value_arithmetic`.
pub use Rattle.kq_run_groups.specs.kq_value_arithmetic.Logic
