use Rattle.std.proofs.Common.{◌≡◌, ◌++◌, drop, map}
use Rattle.kq_bind_columns.specs.Laying.{as_they_are}
use Rattle.kq_bind_columns.proofs.laying.as_they_are.Given as goal
use Rattle.kq_plan_expressions.specs.Terms.{term_of}

abbrev pub invariant-loop-i : goal.invariant-loop-i
invariant-loop-i l = as_they_are 0 l.columns ≡ map term_of l.exprs.items ++ as_they_are l.i (drop l.i l.columns)
