-- What callers of this crate name of `kq_run_row_operators`.
pub use Rattle.kq_run_row_operators.specs.Operators
pub use Rattle.kq_run_row_operators.specs.Pieces
pub use Rattle.kq_run_row_operators.specs.Ran
pub use Rattle.kq_run_row_operators.specs.declared.piece.Piece
