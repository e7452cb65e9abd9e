use Rattle.std.proofs.lemmas.Result.{on_ok_weaker}
use Rattle.kq_run_aggregates.proofs.Batches.{Grows-push}
use Rattle.kq_run_aggregates.proofs.states.States.grow.Goals as goal

pub returns-clause-ok : goal.returns-clause-ok
returns-clause-ok c = rw (← c.self.view_is) (on_ok_weaker c.grow.result (λ e. Grows-push _ _ _ e) c.grow.ensures.ok)
