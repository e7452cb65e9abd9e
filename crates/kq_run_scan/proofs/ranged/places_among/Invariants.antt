use Rattle.std.proofs.Common.{◌≡◌, take}
use Rattle.kq_run_scan.specs.Ranges.{places_between}
use Rattle.kq_run_scan.proofs.ranged.places_among.Given as goal

abbrev pub invariant-loop-i : goal.invariant-loop-i
invariant-loop-i l = l.pairs.items ≡ places_between l.above l.to 0 (take l.i l.extent.records)
