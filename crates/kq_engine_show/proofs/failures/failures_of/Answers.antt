use Rattle.kq_catalog_journal.specs.History.{log}
use Rattle.kq_catalog_journal.specs.Policies.{noted}
use Rattle.kq_engine_show.proofs.FailureLemmas.{failure_rows-typed}
use Rattle.kq_engine_show.proofs.failures.failures_of.Goals as goal

pub returns-clause-typed : goal.returns-clause-typed
returns-clause-typed c =
    let l = log c.args.snapshot.now.history in
    rw (c.in_ok-rows_of.ensures, c.in_ok-failure_schema.ensures) (failure_rows-typed l (noted l))
