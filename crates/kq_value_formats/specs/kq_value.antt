-- What callers of this crate name of `kq_value`.
pub use Rattle.kq_value.specs.Seen
pub use Rattle.kq_value.specs.Tree
