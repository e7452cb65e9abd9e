use Rattle.std.proofs.Common.{◌≡◌, drop}
use Rattle.kq_value.specs.Schema.{same_fields}
use Rattle.kq_value.proofs.schema.same_fields.Given as goal

abbrev pub invariant-loop-i : goal.invariant-loop-i
invariant-loop-i l = same_fields (drop l.i l.a) (drop l.i l.b) ≡ same_fields l.a l.b
