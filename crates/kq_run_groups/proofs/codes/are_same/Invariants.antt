use Rattle.std.proofs.Common.{take}
use Rattle.kq_run_groups.specs.Columns.{SameCodes}
use Rattle.kq_run_groups.proofs.codes.are_same.Given as goal

abbrev pub invariant-loop-one : goal.invariant-loop-one
invariant-loop-one l = SameCodes l.p l.q (take l.one-index l.codes)
