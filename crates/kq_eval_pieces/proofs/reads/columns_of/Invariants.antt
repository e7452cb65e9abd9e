use Rattle.std.proofs.Common.{◌≡◌, ◌++◌, drop, map}
use Rattle.std.specs.List.{concat}
use Rattle.kq_eval_pieces.specs.Pieces.{columns_read}
use Rattle.kq_eval_pieces.proofs.reads.columns_of.Given as goal

abbrev pub invariant-loop-expr : goal.invariant-loop-expr
invariant-loop-expr l = concat (map columns_read l.exprs) ≡ l.columns.items ++ concat (map columns_read (drop l.expr-index l.exprs))
