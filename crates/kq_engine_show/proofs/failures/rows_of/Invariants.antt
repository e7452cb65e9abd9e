use Rattle.std.proofs.Common.{◌≡◌, ◌≤◌, ◌-◌, length, map, take}
use Rattle.kq_catalog_journal.specs.History.{log}
use Rattle.kq_catalog_journal.specs.Policies.{noted}
use Rattle.kq_engine_show.specs.FailureRows.{failure_row}
use Rattle.kq_engine_show.proofs.failures.rows_of.Given as goal

abbrev pub invariant-loop-at : goal.invariant-loop-at
invariant-loop-at l = record {
  within : l.at ≤ length (noted (log l.snapshot.history));
  rows : l.rows ≡ map (failure_row (log l.snapshot.history)) (take l.at (noted (log l.snapshot.history)));
}

abbrev pub decreases-loop-at : goal.decreases-loop-at
decreases-loop-at l = l.count - l.at
