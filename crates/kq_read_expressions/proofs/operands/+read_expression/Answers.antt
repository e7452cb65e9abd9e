use Rattle.std.proofs.Common.{arith}
use Rattle.kq_read_expressions.proofs.Depth.{expression_deeper, expression_none}
use Rattle.kq_read_expressions.proofs.operands.+read_expression.Goals as goal

pub returns-then-budget-eq0 : goal.returns-then-budget-eq0
returns-then-budget-eq0 t c = expression_none c.args.budget (omega arith) c.args.cursor.now

pub returns : goal.returns
returns t c = rw (expression_deeper c.args.budget (omega arith) c.args.cursor.now) c.disjunction.ensures
