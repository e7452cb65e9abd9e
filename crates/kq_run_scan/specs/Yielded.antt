-- What is yielded of rows that come through row operators.
use Rattle.std.specs.Prelude.{◌≡◌, []}
use Rattle.kq_run_row_operators.specs.Pieces.{rows_in}
use Rattle.kq_run_row_operators.specs.Ran.{came, failed}
use Rattle.kq_run_scan.specs.Flowing.{Flowing, Flows}
use Rattle.kq_run_scan.specs.Sources.{source_rows}
use Rattle.kq_run_scan.specs.declared.flow.Next.{Next}
use Rattle.kq_run_scan.specs.declared.flow.Next.TheVariants as next

-- a piece has come, or there is no more, or an operator fails on one of the rows
abbrev pub Yields : Flowing → Flowing → Next → Type 0
Yields old new (next.Piece p) = Flows old (rows_in source_rows p) new
Yields old new next.End = old.to_come ≡ came []
Yields old new (next.Failed n) = old.to_come ≡ failed n
