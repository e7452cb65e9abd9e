use Rattle.std.proofs.Common.{◌≡◌, map, take}
use Rattle.kq_store_column_view.specs.Vectors.{cells_of}
use Rattle.kq_run_groups.specs.Columns.{rows_of}
use Rattle.kq_run_groups.specs.Keys.{IsTable, Numbers}
use Rattle.kq_run_groups.proofs.key_table.KeyTable.numbers_of_columns.Given as goal

abbrev pub invariant-loop-i : goal.invariant-loop-i
invariant-loop-i l = record {
  table : IsTable l.self;
  width : l.self.width ≡ l.fn.self.width;
  numbers : Numbers l.fn.self.keys l.self.keys l.numbers.items (take l.i (rows_of l.count (map cells_of l.columns)));
}
