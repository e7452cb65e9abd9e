use Rattle.std.proofs.Common.{◌≡◌, [], length, map, replicate, take}
use Rattle.kq_run_aggregates.specs.Holds.{counted}
use Rattle.kq_run_aggregates.specs.Steps.{TakesIn}
use Rattle.kq_run_aggregates.specs.declared.kind.Kind.TheVariants as kind
use Rattle.kq_run_aggregates.proofs.columns.count_each.Given as goal

abbrev pub invariant-loop-i : goal.invariant-loop-i
invariant-loop-i l = record {
  long : length l.counts.items ≡ length l.fn.counts.items;
  taken : TakesIn kind.Count (take l.i l.groups) (take l.i (replicate (length l.groups) [])) (map counted l.fn.counts.items) (map counted l.counts.items);
}
