-- What is read of rows in parts.
use Rattle.std.specs.Prelude.{◌≡◌, [], Option, Some, None}
use Rattle.kq_run_row_operators.specs.Pieces.{rows_in}
use Rattle.kq_run_row_operators.specs.declared.piece.Piece.{Piece}
use Rattle.kq_run_scan.specs.Sources.{source_rows}
use Rattle.kq_run_scan.specs.Unread.{UnreadView, IsRead}
use Rattle.kq_run_scan.specs.declared.source.Source.{Source}

-- a part has been read, or there is none left
abbrev pub ReadsPart : UnreadView → UnreadView → Option (Piece Source) → Type 0
ReadsPart old new (Some part) = IsRead old (rows_in source_rows part) new
ReadsPart old new None = old.rows ≡ []
