use Rattle.kq_run_laws.proofs.Objects.{keeps}
use Rattle.kq_run_laws.proofs.laws.objects_keep_their_last_members.Goals as goal

pub returns : goal.returns
returns c ms kept h = keeps ms kept h
