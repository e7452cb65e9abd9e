-- The law is proved over the definition.
use Rattle.std.proofs.Common.{◌∷◌}
use Rattle.kq_bind_laws.proofs.Laid.{extended_so}
use Rattle.kq_bind_laws.proofs.laws.extends_have_their_columns.Goals as goal

pub returns : goal.returns
returns c s w v i is different few e = extended_so s w v (i ∷ is) different few e
