use Rattle.std.proofs.Common.{subst}
use Rattle.kq_run_gather.specs.Pipelines.{AreWide}
use Rattle.kq_run_gather.specs.declared.collecting.Collected.{Collected}
use Rattle.kq_run_gather.proofs.Coming.{even}
use Rattle.kq_run_gather.proofs.collecting.collected_together.Goals as goal

pub append-requires : goal.append-requires
append-requires c =
    let (w, first, rest) = c.requires in
    even w c.in-Rows.rows c.in-Rows-rest.others (subst (λ (r : Collected). AreWide w r) c.in-Rows.is first) (subst (λ (r : Collected). AreWide w r) c.in-Rows-rest.is rest)
