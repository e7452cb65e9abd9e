-- What callers of this crate name of `kq_value_conversions`.
pub use Rattle.kq_value_conversions.proofs.Typing
