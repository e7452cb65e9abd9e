use Rattle.std.proofs.Common.{◌≡◌, drop}
use Rattle.kq_value.specs.Values.{row_cmp}
use Rattle.kq_value.proofs.row.compare.Given as goal

abbrev pub invariant-loop-i : goal.invariant-loop-i
invariant-loop-i l = row_cmp l.a l.b ≡ row_cmp (drop l.i l.a) (drop l.i l.b)
