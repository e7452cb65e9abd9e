use Rattle.std.proofs.Common.{◌≡◌, map, take}
use Rattle.std.specs.List.{All}
use Rattle.kq_plan.specs.Plans.{cells_seen}
use Rattle.kq_store_rows.specs.Chunks.{HasWidth}
use Rattle.kq_run_plan.proofs.single.written_rows.Given as goal

abbrev pub invariant-loop-row : goal.invariant-loop-row
invariant-loop-row l = (l.rows ≡ map cells_seen (take l.row-index l.cells)) × All (HasWidth l.width) l.rows
