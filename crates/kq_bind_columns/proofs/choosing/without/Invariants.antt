use Rattle.std.proofs.Common.{◌≡◌, ◌++◌, map, drop}
use Rattle.kq_bind_columns.specs.Chosen.{without}
use Rattle.kq_bind_columns.proofs.choosing.without.Given as goal
use Rattle.kq_plan_expressions.specs.Terms.{term_of}

abbrev pub invariant-loop-i : goal.invariant-loop-i
invariant-loop-i l =
    let rest = without l.i (drop l.i l.columns) l.numbers in
    without 0 l.columns l.numbers ≡ (map term_of l.exprs.items ++ rest.0, l.fields.items ++ rest.1)
