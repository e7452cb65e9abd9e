use Rattle.std.proofs.Common.{◌≡◌, map, take}
use Rattle.kq_eval_row.specs.kq_value_conversions.Converted.{as_long}
use Rattle.kq_eval_columns.specs.Seen.{cells_in_parts}
use Rattle.kq_eval_columns.proofs.parts.long_cells.Given as goal

abbrev pub invariant-loop-i : goal.invariant-loop-i
invariant-loop-i l = map as_long (cells_in_parts (take l.i l.parts)) ≡ l.cells.items
