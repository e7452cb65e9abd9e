use Rattle.std.proofs.Common.{◌≡◌, take}
use Rattle.kq_run_scan.specs.Held.{sources_in}
use Rattle.kq_run_scan.specs.Unread.{rows_among}
use Rattle.kq_run_scan.proofs.first.first_copies.Given as goal

abbrev pub invariant-loop-at : goal.invariant-loop-at
invariant-loop-at l = l.few ≡ take l.count (rows_among (take l.at (sources_in l.place)))
