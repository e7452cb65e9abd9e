-- The law is proved over the definition.
use Rattle.kq_export_laws.proofs.Foreign.{moments_found}
use Rattle.kq_export_laws.proofs.symbols.calls_of_the_moment_are_found.Goals as goal

pub returns : goal.returns
returns c = moments_found
