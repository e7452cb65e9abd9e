use Rattle.std.proofs.Common.{◌≡◌, length, map, take}
use Rattle.kq_run_aggregates.specs.Alone.{cell_as, each_alone}
use Rattle.kq_run_aggregates.specs.Holds.{extreme}
use Rattle.kq_run_aggregates.specs.Steps.{TakesIn}
use Rattle.kq_run_aggregates.specs.Tables.{side_kind}
use Rattle.kq_run_aggregates.proofs.columns.offer_each.Given as goal

abbrev pub invariant-loop-i : goal.invariant-loop-i
invariant-loop-i l = record {
  long : length l.values.items ≡ length l.fn.values.items;
  taken : TakesIn (side_kind l.side) (take l.i l.groups) (take l.i (each_alone (map (cell_as l.reading) l.numbers))) (map extreme l.fn.values.items) (map extreme l.values.items);
}
