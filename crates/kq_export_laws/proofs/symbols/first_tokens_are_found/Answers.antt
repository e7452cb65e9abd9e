-- The law is proved over the definition.
use Rattle.kq_export_laws.proofs.First.{token_first}
use Rattle.kq_export_laws.proofs.symbols.first_tokens_are_found.Goals as goal

pub returns : goal.returns
returns c = token_first
