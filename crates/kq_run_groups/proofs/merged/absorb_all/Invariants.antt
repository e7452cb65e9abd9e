use Rattle.kq_run_groups.proofs.Merging.{AbsorbsSome}
use Rattle.kq_run_groups.proofs.merged.absorb_all.Given as goal

abbrev pub invariant-loop-i : goal.invariant-loop-i
invariant-loop-i l = AbsorbsSome l.numbers l.places l.others l.count l.i l.fn.states l.states
