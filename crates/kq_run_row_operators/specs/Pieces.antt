-- The rows of a piece, and what operators made of them.
use Rattle.std.specs.Prelude.{List, map}
use Rattle.kq_eval_pieces.specs.Operators.{Row}
use Rattle.kq_eval_pieces.specs.Pieces.{piece_of}
use Rattle.kq_store_rows.specs.Chunks.{row_at}
use Rattle.kq_run_row_operators.specs.Ran.{Ran, came, failed}
use Rattle.kq_run_row_operators.specs.declared.piece.Piece.{Piece}
use Rattle.kq_run_row_operators.specs.declared.piece.Piece.TheVariants as piece
use Rattle.kq_run_row_operators.specs.declared.run.Passed.{Passed}
use Rattle.kq_run_row_operators.specs.declared.run.Passed.TheVariants as passed

-- the rows of a piece, by those of what it is a piece of
abbrev pub rows_in : {R : Type 0} → (R → List Row) → Piece R → List Row
rows_in rows (piece.Part r from to) = piece_of (rows r) from to
rows_in rows (piece.Chosen r places) = map (row_at (rows r)) places.items
rows_in rows (piece.Own made) = made

abbrev pub ran_in : {R : Type 0} → (R → List Row) → Passed R → Ran
ran_in rows (passed.Rows p) = came (rows_in rows p)
ran_in rows (passed.Failed n) = failed n
