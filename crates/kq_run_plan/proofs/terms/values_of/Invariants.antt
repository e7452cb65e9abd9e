use Rattle.std.proofs.Common.{◌≡◌, ◌++◌, drop, length, map}
use Rattle.kq_value.specs.Computed.{Is, and_then}
use Rattle.kq_plan_expressions.specs.Terms.{term_of}
use Rattle.kq_run_gather.specs.kq_eval_row.Val.{surroundings}
use Rattle.kq_run_gather.specs.kq_eval_pieces.Operators.{values_at}
use Rattle.kq_run_plan.proofs.terms.values_of.Given as goal

abbrev pub invariant-loop-expr : goal.invariant-loop-expr
invariant-loop-expr l =
    (length l.values.items ≡ l.expr-index) × (values_at (map term_of l.exprs) (surroundings l.now l.lets) l.row ≡ and_then (values_at (map term_of (drop l.expr-index l.exprs)) (surroundings l.now l.lets) l.row) (λ vs. Is (l.values.items ++ vs)))
