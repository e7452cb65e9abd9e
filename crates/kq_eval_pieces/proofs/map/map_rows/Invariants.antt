use Rattle.std.proofs.Common.{◌≡◌, ◌≤◌, ◌-◌, ◌++◌, drop, length, map}
use Rattle.std.specs.List.{All}
use Rattle.kq_value.specs.Computed.{Is, and_then, each}
use Rattle.kq_plan_expressions.specs.Terms.{term_of}
use Rattle.kq_store_rows.specs.Chunks.{HasWidth}
use Rattle.kq_eval_columns.specs.kq_eval_row.Val.{surroundings}
use Rattle.kq_eval_pieces.specs.Operators.{values_at}
use Rattle.kq_eval_pieces.proofs.map.map_rows.Given as goal

abbrev pub invariant-loop-from : goal.invariant-loop-from
invariant-loop-from g l =
    let f = values_at (map term_of l.exprs) (surroundings l.now l.lets) in
    (l.from ≤ length (g.R.Relation.rows l.relation)) × (each f (g.R.Relation.rows l.relation) ≡ and_then (each f (drop l.from (g.R.Relation.rows l.relation))) (λ others. Is (l.mapped ++ others))) × All (HasWidth (length l.exprs)) l.mapped

abbrev pub decreases-loop-from : goal.decreases-loop-from
decreases-loop-from g l = length (g.R.Relation.rows l.relation) - l.from
