use Rattle.std.proofs.Common.{◌≡◌, ◌≤◌, ◌-◌, length}
use Rattle.kq_plan_expressions.specs.Terms.{term_of}
use Rattle.kq_eval_columns.specs.kq_eval_row.Val.{meaning, surroundings}
use Rattle.kq_eval_pieces.specs.Pieces.{places_where}
use Rattle.kq_eval_pieces.proofs.Kept.{rest_of}
use Rattle.kq_eval_pieces.proofs.filter.places_kept.Given as goal

abbrev pub invariant-loop-from : goal.invariant-loop-from
invariant-loop-from g l =
    let f = meaning (term_of l.condition) (surroundings l.now l.lets) in
    (l.from ≤ length (g.R.Relation.rows l.relation)) × (places_where f (g.R.Relation.rows l.relation) ≡ rest_of f (g.R.Relation.rows l.relation) l.from l.places.items)

abbrev pub decreases-loop-from : goal.decreases-loop-from
decreases-loop-from g l = length (g.R.Relation.rows l.relation) - l.from
