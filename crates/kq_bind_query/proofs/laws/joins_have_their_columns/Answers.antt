-- The laws are proved over the definition.
use Rattle.kq_bind_query.proofs.Beside.{left_first, right_behind}
use Rattle.kq_bind_query.proofs.laws.joins_have_their_columns.Goals as goal

pub returns-clause-left : goal.returns-clause-left
returns-clause-left c = left_first

pub returns-clause-right : goal.returns-clause-right
returns-clause-right c = right_behind
