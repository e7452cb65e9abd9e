-- The laws are proved over the definitions.
use Rattle.kq_bind_query.proofs.Expanded.{own_replaced, other_last}
use Rattle.kq_bind_query.proofs.laws.expansions_replace_their_own_column.Goals as goal

pub returns-clause-own : goal.returns-clause-own
returns-clause-own c = own_replaced

pub returns-clause-other : goal.returns-clause-other
returns-clause-other c = other_last
