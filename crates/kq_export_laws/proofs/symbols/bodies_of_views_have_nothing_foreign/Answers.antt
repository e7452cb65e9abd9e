-- The law is proved over the definition.
use Rattle.kq_export_laws.proofs.ViewBodies.{nothing_foreign}
use Rattle.kq_export_laws.proofs.symbols.bodies_of_views_have_nothing_foreign.Goals as goal

pub returns : goal.returns
returns c = nothing_foreign
