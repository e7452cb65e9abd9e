use Rattle.std.proofs.Common.{◌≡◌, map, take}
use Rattle.kq_store_column_view.specs.Vectors.{member_at}
use Rattle.kq_eval_columns.specs.Seen.{cells_in_parts}
use Rattle.kq_eval_columns.proofs.members.parts_of_parts.Given as goal

abbrev pub invariant-loop-i : goal.invariant-loop-i
invariant-loop-i l = cells_in_parts l.parts.items ≡ map (member_at l.key) (cells_in_parts (take l.i l.whole))
