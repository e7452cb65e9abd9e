use Rattle.std.proofs.Common.{◌≡◌, ◌++◌, drop, map}
use Rattle.std.specs.List.{concat}
use Rattle.kq_eval_pieces.specs.Pieces.{columns_copied}
use Rattle.kq_eval_pieces.proofs.reads.copied_of.Given as goal

abbrev pub invariant-loop-expr : goal.invariant-loop-expr
invariant-loop-expr l = concat (map columns_copied l.exprs) ≡ l.columns.items ++ concat (map columns_copied (drop l.expr-index l.exprs))
