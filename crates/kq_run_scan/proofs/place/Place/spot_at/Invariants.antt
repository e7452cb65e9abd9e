use Rattle.std.proofs.Common.{◌≡◌, drop}
use Rattle.kq_run_scan.specs.Held.{rows_in, sources_in}
use Rattle.kq_run_scan.specs.Unread.{rows_among}
use Rattle.kq_run_scan.proofs.place.Place.spot_at.Given as goal

abbrev pub invariant-loop-source : goal.invariant-loop-source
invariant-loop-source l = drop l.number (rows_in l.self) ≡ drop l.row (rows_among (drop l.source (sources_in l.self)))
