-- The law is proved over the definition.
use Rattle.kq_export_laws.proofs.Supported.{query_first}
use Rattle.kq_export_laws.proofs.symbols.what_is_unsupported_is_found.Goals as goal

pub returns : goal.returns
returns c = query_first
