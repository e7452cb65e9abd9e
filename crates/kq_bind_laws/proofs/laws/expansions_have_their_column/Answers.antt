-- The law is proved over the definition.
use Rattle.kq_bind_laws.proofs.Expanded.{parts_so}
use Rattle.kq_bind_laws.proofs.laws.expansions_have_their_column.Goals as goal

pub returns : goal.returns
returns c s w v i t different e = parts_so s w v i t different e
