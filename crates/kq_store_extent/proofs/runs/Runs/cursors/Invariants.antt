use Rattle.std.proofs.Common.{◌≡◌, ◌≤◌, [], take, MatchOption}
use Rattle.kq_store_column.specs.Bounds.{AreBounds}
use Rattle.kq_store_extent.proofs.Named.{cursors_by}
use Rattle.kq_store_extent.proofs.runs.Runs.cursors.Given as goal

-- the bounds of the cursors so far
abbrev pub invariant-loop-run : goal.invariant-loop-run
invariant-loop-run l =
    let cursors = cursors_by (take l.run-index l.run-items) in
    MatchOption l.cursors (cursors ≡ []) (λ bounds. AreBounds ◌≤◌ cursors bounds.0 bounds.1)
