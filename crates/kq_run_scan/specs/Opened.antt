-- What is read of rows in parts, of which some are passed over.
use Rattle.std.specs.Prelude.{◌≡◌, ◌<◌, List, Option, Some, None, length}
use Rattle.std.specs.List.{All}
use Rattle.kq_store_rows.specs.Chunks.{HasWidth}
use Rattle.kq_run_row_operators.specs.kq_eval_pieces.Operators.{Row}
use Rattle.kq_run_row_operators.specs.kq_eval_row.Val.{Surroundings}
use Rattle.kq_run_row_operators.specs.Operators.{Rowwise}
use Rattle.kq_run_row_operators.specs.Pieces.{rows_in}
use Rattle.kq_run_row_operators.specs.Ran.{joined, ran}
use Rattle.kq_run_row_operators.specs.declared.piece.Piece.{Piece}
use Rattle.kq_run_scan.specs.Ruled.{LeavesNothing}
use Rattle.kq_run_scan.specs.Sources.{source_rows}
use Rattle.kq_run_scan.specs.Unread.{UnreadView}
use Rattle.kq_run_scan.specs.declared.source.Source.{Source}

-- a part has been read, so that what operators make of all that was left is what they make of it and of what is left now
pub record IsOpen (os : List Rowwise) (s : Surroundings) (old : UnreadView) (part : List Row) (new : UnreadView) : Type 0 where
  pub comes : ran os s old.rows ≡ joined (ran os s part) (ran os s new.rows)
  pub fewer : length new.rows < length old.rows
  pub wide : All (HasWidth old.width) part
  pub width : new.width ≡ old.width

-- such a part has been read, or nothing comes of all that was left
abbrev pub ReadsOpen : List Rowwise → Surroundings → UnreadView → UnreadView → Option (Piece Source) → Type 0
ReadsOpen os s old new (Some part) = IsOpen os s old (rows_in source_rows part) new
ReadsOpen os s old new None = LeavesNothing os s old.rows
