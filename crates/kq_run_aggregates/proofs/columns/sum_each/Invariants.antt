use Rattle.std.proofs.Common.{◌≡◌, length, map, take}
use Rattle.kq_run_aggregates.specs.Alone.{cell_as, each_alone}
use Rattle.kq_run_aggregates.specs.Holds.{summed}
use Rattle.kq_run_aggregates.specs.Steps.{TakesIn}
use Rattle.kq_run_aggregates.specs.declared.kind.Kind.TheVariants as kind
use Rattle.kq_run_aggregates.proofs.columns.sum_each.Given as goal

abbrev pub invariant-loop-i : goal.invariant-loop-i
invariant-loop-i l = record {
  long : length l.sums.items ≡ length l.fn.sums.items;
  taken : TakesIn kind.Sum (take l.i l.groups) (take l.i (each_alone (map (cell_as l.reading) l.numbers))) (map summed l.fn.sums.items) (map summed l.sums.items);
}
