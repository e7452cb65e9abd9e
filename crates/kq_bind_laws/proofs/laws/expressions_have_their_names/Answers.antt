-- The law is proved over the definition.
use Rattle.kq_bind_laws.proofs.Owned.{own_to, own_from}
use Rattle.kq_bind_laws.proofs.laws.expressions_have_their_names.Goals as goal

pub returns : goal.returns
returns c text cs e said = (own_to text cs e said, own_from text cs)
