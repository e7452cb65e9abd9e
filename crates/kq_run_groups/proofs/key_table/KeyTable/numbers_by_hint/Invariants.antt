use Rattle.std.proofs.Common.{◌≡◌, map, take}
use Rattle.kq_run_aggregates.specs.Alone.{cell_as, each_alone}
use Rattle.kq_run_groups.specs.Keys.{IsTable, Numbers}
use Rattle.kq_run_groups.proofs.key_table.KeyTable.numbers_by_hint.Given as goal

abbrev pub invariant-loop-i : goal.invariant-loop-i
invariant-loop-i l = record {
  table : IsTable l.self;
  width : l.self.width ≡ l.fn.self.width;
  numbers : Numbers l.fn.self.keys l.self.keys l.numbers.items (take l.i (each_alone (map (cell_as l.reading) l.values)));
}
