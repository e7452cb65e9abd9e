use Rattle.kq_run_scan.proofs.source.SourceRelation.lend.Goals as goal

pub returns-in-Frame : goal.returns-in-Frame
returns-in-Frame c = rw c.in-Frame.is c.lend-in-Frame.ensures
