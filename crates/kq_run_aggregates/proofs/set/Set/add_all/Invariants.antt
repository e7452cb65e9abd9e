use Rattle.std.proofs.Common.{◌≡◌, List, ◌++◌, length, take}
use Rattle.kq_run_aggregates.specs.Holds.{IsSetOf}
use Rattle.kq_run_aggregates.proofs.set.Set.add_all.Given as goal

abbrev pub invariant-loop-element : goal.invariant-loop-element
invariant-loop-element l =
    ((vs : List _) → IsSetOf l.most vs l.initial.self → IsSetOf l.most (vs ++ take l.element-index l.element-items) l.self) × (take (length l.initial.self) l.self ≡ l.initial.self)
