use Rattle.std.proofs.Common.{◌≡◌, map, take}
use Rattle.kq_plan_expressions.specs.Terms.{column, term_of}
use Rattle.kq_run_plan.proofs.distinct.column_values.Given as goal

abbrev pub invariant-loop-number : goal.invariant-loop-number
invariant-loop-number l = map term_of l.exprs.items ≡ map column (take l.number-index l.columns)
