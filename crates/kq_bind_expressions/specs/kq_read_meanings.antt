-- What callers of this crate name of `kq_read_meanings`.
pub use Rattle.kq_read_meanings.specs.Literals
pub use Rattle.kq_read_meanings.specs.Names
pub use Rattle.kq_read_meanings.specs.Pieces
pub use Rattle.kq_read_meanings.specs.Types
