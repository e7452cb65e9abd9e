use Rattle.std.proofs.Common.{◌≡◌, ◌∷◌, map}
use Rattle.kq_plan_expressions.specs.Terms.{typed_of}
use Rattle.kq_bind_expressions.proofs.apply.with_two_before.Given as goal

abbrev pub invariant-loop-one : goal.invariant-loop-one
invariant-loop-one l = map typed_of l.given.items ≡ typed_of l.fn.first ∷ typed_of l.fn.second ∷ map typed_of l.yielded
