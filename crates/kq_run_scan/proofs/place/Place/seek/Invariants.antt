use Rattle.std.proofs.Common.{◌≡◌}
use Rattle.kq_run_scan.specs.Held.{sources_in}
use Rattle.kq_run_scan.specs.Unread.{rows_from}
use Rattle.kq_run_scan.proofs.place.Place.seek.Given as goal

abbrev pub invariant-loop-source : goal.invariant-loop-source
invariant-loop-source l = rows_from (sources_in l.self) l.fn.spot.source l.fn.spot.row ≡ rows_from (sources_in l.self) l.source l.row
