use Rattle.std.proofs.Common.{◌≡◌, ◌++◌, drop, length, map}
use Rattle.kq_plan.specs.Fits.{ty_of}
use Rattle.kq_plan.specs.Plans.{aggregating_of}
use Rattle.kq_run_gather.specs.Grouping.{all_made, under}
use Rattle.kq_run_gather.proofs.grouping.typed.Given as goal

abbrev pub invariant-loop-aggregate : goal.invariant-loop-aggregate
invariant-loop-aggregate l = record {
  made : under (map aggregating_of l.aggregates) (map ty_of l.columns) ≡ l.made.items ++ under (map aggregating_of (drop l.aggregate-index l.aggregates)) (map ty_of l.rest);
  left : length l.rest ≡ all_made (map aggregating_of (drop l.aggregate-index l.aggregates));
}
