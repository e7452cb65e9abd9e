use Rattle.kq_run_laws.proofs.Arrays.{ordered}
use Rattle.kq_run_laws.proofs.laws.sorted_arrays_are_in_order.Goals as goal

pub returns : goal.returns
returns c ts = ordered ts
