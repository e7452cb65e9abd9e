use Rattle.std.proofs.Common.{◌≡◌, [], take}
use Rattle.kq_store_frame.proofs.frame.Frame.to_rows.Given as goal

abbrev pub invariant-loop-index : goal.invariant-loop-index
invariant-loop-index l = record { made : l.rows ≡ take l.index l.self; none : l.row.items ≡ [] }
