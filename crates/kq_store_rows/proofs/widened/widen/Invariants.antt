use Rattle.std.proofs.Common.{◌≡◌, ◌-◌, length}
use Rattle.kq_store_rows.specs.Widened.{widened}
use Rattle.kq_store_rows.proofs.widened.widen.Given as goal

-- what is missing still stands behind what is there
abbrev pub invariant-loop-alloc : goal.invariant-loop-alloc
invariant-loop-alloc l = widened l.fields l.row.items ≡ widened l.fields l.fn.row.items

abbrev pub decreases-loop-alloc : goal.decreases-loop-alloc
decreases-loop-alloc l = length l.fields - length l.row.items
