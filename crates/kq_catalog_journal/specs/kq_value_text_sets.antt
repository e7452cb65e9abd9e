-- What callers of this crate name of `kq_value_text_sets`.
pub use Rattle.kq_value_text_sets.specs.Names
