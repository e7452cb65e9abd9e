use Rattle.std.proofs.Common.{◌≡◌, [], take, MatchOption}
use Rattle.kq_store_column.specs.Bounds.{AreBounds}
use Rattle.kq_store_column.specs.Cells.{cells_present, IsAtMost}
use Rattle.kq_store_column.proofs.zone.bounds_of.Given as goal

-- the bounds of the cells so far
abbrev pub invariant-loop-i : goal.invariant-loop-i
invariant-loop-i g l =
    let cells = cells_present (take l.i (g.C.Cellwise.cells l.cells)) in
    MatchOption l.zone (cells ≡ []) (λ zone. AreBounds IsAtMost cells zone.0.now zone.1.now)
