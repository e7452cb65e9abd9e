use Rattle.std.proofs.Common.{◌≡◌, take, count_by}
use Rattle.kq_engine_interleavings.specs.Steps.{tells}
use Rattle.kq_engine_interleavings.proofs.run.told_at.Given as goal

abbrev pub invariant-loop-i : goal.invariant-loop-i
invariant-loop-i l = count_by (tells l.by) (take l.i l.outcomes) ≡ 0
