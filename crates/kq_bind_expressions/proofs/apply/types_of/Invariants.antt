use Rattle.std.proofs.Common.{◌≡◌, ◌++◌, map, drop}
use Rattle.kq_plan_expressions.specs.Terms.{typed_of}
use Rattle.kq_bind_expressions.specs.Apply.{type_of}
use Rattle.kq_bind_expressions.proofs.apply.types_of.Given as goal

abbrev pub invariant-loop-one : goal.invariant-loop-one
invariant-loop-one l = map type_of (map typed_of l.given) ≡ l.types.items ++ map type_of (map typed_of (drop l.one-index l.given))
