use Rattle.std.proofs.lemmas.List.{map-set}
use Rattle.kq_bind_columns.proofs.laying.with_expr.Goals as goal
use Rattle.kq_plan_expressions.specs.Terms.{term_of}

pub returns-then-number-len : goal.returns-then-number-len
returns-then-number-len c = map-set term_of c.args.exprs.items c.args.number c.args.expr
