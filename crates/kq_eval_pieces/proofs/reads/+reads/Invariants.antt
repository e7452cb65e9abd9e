use Rattle.std.proofs.Common.{◌≡◌, ◌++◌, ◌+◌, ◌*◌, drop, map}
use Rattle.std.specs.List.{concat}
use Rattle.kq_plan_expressions.specs.Terms.{mapped}
use Rattle.kq_eval_pieces.specs.Pieces.{columns_read, reads_link}
use Rattle.kq_eval_pieces.proofs.reads.+reads.Given as goal

abbrev pub invariant-push_all-loop-expr : goal.invariant-push_all-loop-expr
invariant-push_all-loop-expr l = l.fn.columns.items ++ concat (map columns_read l.fn.exprs.items) ≡ l.columns.items ++ concat (map columns_read (drop l.expr-index l.expr-items))

abbrev pub invariant-push_operands-loop-link : goal.invariant-push_operands-loop-link
invariant-push_operands-loop-link l =
    l.fn.columns.items ++ concat (map reads_link (map (mapped columns_read) l.fn.links.items)) ≡ l.columns.items ++ concat (map reads_link (map (mapped columns_read) (drop l.link-index l.link-items)))

-- ---- each function goes on with a part, or with the same and a lesser function

abbrev pub decreases-push_columns : goal.decreases-push_columns
decreases-push_columns l = 3 * goal.size-push_columns l

abbrev pub decreases-push_all : goal.decreases-push_all
decreases-push_all l = 3 * goal.size-push_all l + 1

abbrev pub decreases-push_operands : goal.decreases-push_operands
decreases-push_operands l = 3 * goal.size-push_operands l + 2

abbrev pub decreases-push_operand : goal.decreases-push_operand
decreases-push_operand l = 3 * goal.size-push_operand l + 1
