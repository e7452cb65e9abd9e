use Rattle.std.proofs.Common.{◌≡◌, length, map, take}
use Rattle.kq_value.specs.Computed.{Is, each}
use Rattle.kq_plan_expressions.specs.Terms.{term_of}
use Rattle.kq_eval_columns.specs.kq_eval_row.Val.{surroundings}
use Rattle.kq_eval_pieces.specs.Operators.{values_at}
use Rattle.kq_eval_pieces.specs.Pieces.{piece_of}
use Rattle.kq_eval_pieces.specs.Sources.{rows_from}
use Rattle.kq_eval_pieces.proofs.map.sources_over.Given as goal

abbrev pub invariant-loop-expr : goal.invariant-loop-expr
invariant-loop-expr g l =
    (length l.sources.items ≡ l.expr-index)
    × (each (values_at (map term_of (take l.expr-index l.exprs)) (surroundings l.now l.lets)) (piece_of (g.R.Relation.rows l.relation) l.from l.to) ≡ Is (rows_from l.sources.items 0 (piece_of (g.R.Relation.rows l.relation) l.from l.to)))
