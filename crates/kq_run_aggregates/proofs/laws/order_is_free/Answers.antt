-- The law is proved over the definition.
use Rattle.kq_run_aggregates.proofs.AnyOrder.{Holds-any_order}
use Rattle.kq_run_aggregates.proofs.laws.order_is_free.Goals as goal

pub returns : goal.returns
returns c = Holds-any_order
