-- What callers of this crate name of `kq_eval_pieces`.
pub use Rattle.kq_eval_pieces.specs.Operators
pub use Rattle.kq_eval_pieces.specs.Pieces
