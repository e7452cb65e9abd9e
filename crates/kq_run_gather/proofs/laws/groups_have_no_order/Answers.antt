-- The law is proved over the definition.
use Rattle.kq_run_gather.proofs.AnyOrder.{StandsFor-any_order}
use Rattle.kq_run_gather.proofs.laws.groups_have_no_order.Goals as goal

pub returns : goal.returns
returns c = StandsFor-any_order
