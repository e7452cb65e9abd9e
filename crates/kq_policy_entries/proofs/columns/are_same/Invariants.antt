use Rattle.std.proofs.Common.{◌≡◌, drop}
use Rattle.kq_policy_entries.proofs.columns.are_same.Given as goal
use Rattle.kq_value.specs.Schema.{same_fields}

-- what is left has the answer of the whole
abbrev pub invariant-loop-i : goal.invariant-loop-i
invariant-loop-i l = same_fields (drop l.i l.given) (drop l.i l.wanted) ≡ same_fields l.given l.wanted
