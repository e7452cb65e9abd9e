use Rattle.kq_eval_pieces.specs.Pieces.{columns_copied}
use Rattle.kq_eval_pieces.proofs.Joined.{joined_more}
use Rattle.kq_eval_pieces.proofs.reads.copied_of.Goals as goal

pub loop-expr-preserved : goal.loop-expr-preserved
loop-expr-preserved c =
    joined_more columns_copied _ c.loop-expr.columns.items c.push_copied.new.columns.items c.args.exprs.now c.loop-expr.expr-index c.expr-item.result c.loop-expr-test.true c.expr-item.is c.loop-expr.invariant c.in_ok-push_copied.ensures
