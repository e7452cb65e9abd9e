use Rattle.std.proofs.Common.{◌≡◌, ◌≤◌, ◌-◌, ◌++◌, drop, length}
use Rattle.kq_value.specs.Computed.{Is, and_then, each}
use Rattle.kq_plan_expressions.specs.Terms.{term_of}
use Rattle.kq_eval_columns.specs.kq_eval_row.Val.{meaning, surroundings}
use Rattle.kq_eval_pieces.proofs.values.values_by_pieces.Given as goal

abbrev pub invariant-loop-from : goal.invariant-loop-from
invariant-loop-from g l =
    let f = meaning (term_of l.expr) (surroundings l.now l.lets) in
    (l.from ≤ length (g.R.Relation.rows l.relation)) × (length l.values.items ≡ l.from) × (each f (g.R.Relation.rows l.relation) ≡ and_then (each f (drop l.from (g.R.Relation.rows l.relation))) (λ others. Is (l.values.items ++ others)))

abbrev pub decreases-loop-from : goal.decreases-loop-from
decreases-loop-from g l = length (g.R.Relation.rows l.relation) - l.from
