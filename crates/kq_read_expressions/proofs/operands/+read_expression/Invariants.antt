use Rattle.kq_read_expressions.proofs.operands.+read_expression.Given as goal

abbrev pub decreases-read_expression : goal.decreases-read_expression
decreases-read_expression l = l.budget
