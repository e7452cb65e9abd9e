-- The law is proved over the definition.
use Rattle.kq_bind_query.proofs.Written.{table_holds}
use Rattle.kq_bind_query.proofs.laws.tables_have_their_cells.Goals as goal

pub returns : goal.returns
returns c = table_holds
