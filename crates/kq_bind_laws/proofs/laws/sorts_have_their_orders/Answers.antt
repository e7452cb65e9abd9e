-- The laws are proved over the definition.
use Rattle.std.proofs.Common.{◌∷◌}
use Rattle.kq_bind_laws.proofs.Sorted.{sorted_so, topped_so}
use Rattle.kq_bind_laws.proofs.laws.sorts_have_their_orders.Goals as goal

pub returns-clause-sort : goal.returns-clause-sort
returns-clause-sort c s w v k ks e = sorted_so s w v (k ∷ ks) e

pub returns-clause-top : goal.returns-clause-top
returns-clause-top c s w v t k e = topped_so s w v t k e
