use Rattle.std.proofs.Common.{◌∷◌, [], ◌++◌, sym, ◌∙◌, arith, add-one}
use Rattle.kq_eval_pieces.proofs.Standing.{column_next}
use Rattle.kq_eval_pieces.proofs.columns.cells_in.Goals as goal

pub loop-i-preserved : goal.loop-i-preserved
loop-i-preserved g c =
    rw (c.in_ok-push.ensures.items, add-one)
    ((λ t. c.loop-i.invariant t ++ c.in_ok-cell_or_null.ensures t ∷ []) ∙ sym (column_next (g.R.Relation.rows c.args.relation.now) c.args.from c.loop-i.i c.args.j (omega arith) (omega arith)))
