use Rattle.std.proofs.Common.{map, take}
use Rattle.kq_run_aggregates.specs.Steps.{kept_at}
use Rattle.kq_run_aggregates.specs.Tables.{SameShape}
use Rattle.kq_run_groups.specs.Merges.{TakesOver}
use Rattle.kq_run_groups.proofs.merged.join.Given as goal

abbrev pub invariant-loop-i : goal.invariant-loop-i
invariant-loop-i l = record {
  shape : SameShape l.fn.states l.states;
  done : TakesOver l.fn.states.kind (take l.i l.numbers) (map (kept_at l.other.kept) l.places) l.fn.states.kept l.states.kept;
}
