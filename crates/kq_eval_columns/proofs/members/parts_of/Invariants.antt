use Rattle.std.proofs.Common.{◌≡◌, map, take}
use Rattle.kq_store_column_view.specs.Vectors.{member_at}
use Rattle.kq_eval_columns.specs.Seen.{cells_in_parts}
use Rattle.kq_eval_columns.proofs.members.parts_of.Given as goal

abbrev pub invariant-loop-cell : goal.invariant-loop-cell
invariant-loop-cell l = cells_in_parts l.parts.items ≡ map (member_at l.key) (take l.cell-index l.cells)
