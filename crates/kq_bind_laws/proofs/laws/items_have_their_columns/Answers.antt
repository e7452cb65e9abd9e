-- The laws are proved over the definition.
use Rattle.std.proofs.Common.{◌∷◌}
use Rattle.kq_bind_laws.proofs.Steps.{projected_so, printed_so}
use Rattle.kq_bind_laws.proofs.laws.items_have_their_columns.Goals as goal

pub returns-clause-project : goal.returns-clause-project
returns-clause-project c s w v i is few e = projected_so s w v (i ∷ is) few e

pub returns-clause-print : goal.returns-clause-print
returns-clause-print c s p t v i is few e = printed_so s p v (i ∷ is) few e
