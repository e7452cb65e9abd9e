use Rattle.kq_run_scan.proofs.ruled.keeps_none_in.Goals as goal

pub returns-in-Extent : goal.returns-in-Extent
returns-in-Extent c told = rw c.in-Extent.is (c.keeps_none.ensures told)
