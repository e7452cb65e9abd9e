-- The laws are proved over the definition.
use Rattle.std.proofs.Common.{[], ◌∷◌}
use Rattle.kq_bind_query.specs.kq_bind_operators.Clauses.{grouping_items}
use Rattle.kq_bind_laws.proofs.Summarized.{summarized_so}
use Rattle.kq_bind_laws.proofs.laws.summarizes_have_their_columns.Goals as goal

pub returns-clause-aggregates : goal.returns-clause-aggregates
returns-clause-aggregates c s w a more g v few narrow e = summarized_so s w v (a ∷ more) (grouping_items g) few narrow e

pub returns-clause-keys : goal.returns-clause-keys
returns-clause-keys c s w g v few narrow e = summarized_so s w v [] (g.0 ∷ g.1) few narrow e
