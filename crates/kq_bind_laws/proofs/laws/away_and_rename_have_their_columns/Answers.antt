-- The laws are proved over the definition.
use Rattle.std.proofs.Common.{◌∷◌}
use Rattle.kq_bind_laws.proofs.Picked.{dropped_so, renamed_so}
use Rattle.kq_bind_laws.proofs.laws.away_and_rename_have_their_columns.Goals as goal

pub returns-clause-away : goal.returns-clause-away
returns-clause-away c s w v n ns different e = dropped_so s w v (n ∷ ns) different e

pub returns-clause-rename : goal.returns-clause-rename
returns-clause-rename c s w v p ps different e = renamed_so s w v (p ∷ ps) different e
