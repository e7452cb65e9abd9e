use Rattle.std.proofs.Common.{◌≡◌, map}
use Rattle.kq_plan_expressions.specs.Terms.{typed_of, term_of}
use Rattle.kq_bind_expressions.specs.Apply.{as_taken}
use Rattle.kq_bind_expressions.proofs.apply.all_taken.Given as goal

abbrev pub invariant-loop-one : goal.invariant-loop-one
invariant-loop-one l = map term_of l.args.items ≡ map (as_taken l.widened) (map typed_of l.yielded)
