-- The law is proved over the definition.
use Rattle.kq_bind_query.proofs.Suffixed.{made_free}
use Rattle.kq_bind_query.proofs.laws.default_names_are_free.Goals as goal

pub returns : goal.returns
returns c = made_free
