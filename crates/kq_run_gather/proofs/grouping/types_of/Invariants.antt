use Rattle.std.proofs.Common.{◌≡◌, map, take}
use Rattle.kq_plan.specs.Fits.{ty_of}
use Rattle.kq_run_gather.proofs.grouping.types_of.Given as goal

abbrev pub invariant-loop-column : goal.invariant-loop-column
invariant-loop-column l = l.types.items ≡ map ty_of (take l.column-index l.columns)
