-- The laws are proved over the definitions.
use Rattle.kq_bind_query.proofs.Filled.{outer_some, some_outer, inner_all, all_inner, union_fills}
use Rattle.kq_bind_query.proofs.Standing.{stands_for}
use Rattle.kq_bind_query.proofs.laws.unions_have_their_columns.Goals as goal

pub returns-clause-outer : goal.returns-clause-outer
returns-clause-outer c arms f = (outer_some arms f, some_outer arms f)

pub returns-clause-inner : goal.returns-clause-inner
returns-clause-inner c a arms f = (inner_all a arms f, all_inner a arms f)

pub returns-clause-filled : goal.returns-clause-filled
returns-clause-filled c = union_fills

pub returns-clause-named : goal.returns-clause-named
returns-clause-named c = stands_for
