use Rattle.std.proofs.Common.{◌≡◌, All, map, take}
use Rattle.kq_store_rows.specs.Chunks.{HasWidth}
use Rattle.kq_policy_run.proofs.cut.cut.Given as goal

abbrev pub invariant-loop-index : goal.invariant-loop-index
invariant-loop-index l = (l.few ≡ map (take l.count) (take l.index l.rows)) × All (HasWidth l.width) l.few
