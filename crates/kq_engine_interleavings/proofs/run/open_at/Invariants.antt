use Rattle.std.proofs.Common.{◌≡◌, take, count_by}
use Rattle.kq_engine_interleavings.specs.Steps.{opens}
use Rattle.kq_engine_interleavings.proofs.run.open_at.Given as goal

abbrev pub invariant-loop-i : goal.invariant-loop-i
invariant-loop-i l = count_by (opens l.by) (take l.i l.waiting) ≡ 0
