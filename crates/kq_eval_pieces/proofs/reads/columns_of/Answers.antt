use Rattle.kq_eval_pieces.specs.Pieces.{columns_read}
use Rattle.kq_eval_pieces.proofs.Joined.{joined_more}
use Rattle.kq_eval_pieces.proofs.reads.columns_of.Goals as goal

pub loop-expr-preserved : goal.loop-expr-preserved
loop-expr-preserved c =
    joined_more columns_read _ c.loop-expr.columns.items c.push_columns.new.columns.items c.args.exprs.now c.loop-expr.expr-index c.expr-item.result c.loop-expr-test.true c.expr-item.is c.loop-expr.invariant c.in_ok-push_columns.ensures
