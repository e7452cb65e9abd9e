-- What callers of this crate name of `kq_read_meanings`.
pub use Rattle.kq_bind_expressions.specs.kq_read_meanings.Literals
pub use Rattle.kq_bind_expressions.specs.kq_read_meanings.Names
pub use Rattle.kq_bind_expressions.specs.kq_read_meanings.Pieces
pub use Rattle.kq_bind_expressions.specs.kq_read_meanings.Types
