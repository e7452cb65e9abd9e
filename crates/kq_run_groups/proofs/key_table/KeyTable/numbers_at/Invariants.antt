use Rattle.std.proofs.Common.{◌≡◌, map, take}
use Rattle.kq_store_rows.specs.Chunks.{row_at}
use Rattle.kq_run_groups.specs.Keys.{IsTable, Numbers}
use Rattle.kq_run_groups.proofs.key_table.KeyTable.numbers_at.Given as goal

abbrev pub invariant-loop-i : goal.invariant-loop-i
invariant-loop-i l = record { table : IsTable l.self; width : l.self.width ≡ l.fn.self.width; numbers : Numbers l.fn.self.keys l.self.keys l.numbers.items (take l.i (map (row_at l.other.keys) l.places)) }
