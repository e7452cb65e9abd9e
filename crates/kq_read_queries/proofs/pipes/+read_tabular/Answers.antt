use Rattle.std.proofs.Common.{arith}
use Rattle.kq_read_queries.proofs.Deeper.{tabular_deeper, tabular_none}
use Rattle.kq_read_queries.proofs.pipes.+read_tabular.Goals as goal

pub returns-then-budget-eq0 : goal.returns-then-budget-eq0
returns-then-budget-eq0 t c = tabular_none c.args.budget (omega arith) c.args.cursor.now

pub returns : goal.returns
returns t c = rw (tabular_deeper c.args.budget (omega arith) c.args.cursor.now) c.pipeline.ensures
