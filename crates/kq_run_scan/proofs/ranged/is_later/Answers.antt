use Rattle.kq_run_scan.proofs.Later.{later_by_greatest}
use Rattle.kq_run_scan.proofs.ranged.is_later.Goals as goal

pub returns-in-Some : goal.returns-in-Some
returns-in-Some c = later_by_greatest c.args.above c.in-Some.greatest c.args.extent.now.records c.in-Some.field-0-0 c.in-Some.ensures.bounds
