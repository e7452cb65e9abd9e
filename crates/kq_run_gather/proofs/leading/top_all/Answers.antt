use Rattle.std.proofs.Common.{w64, to_z, of_z}
use Rattle.kq_run_scan.specs.kq_eval_row.Val.{surroundings}
use Rattle.kq_plan.specs.Plans.{sorting_of}
use Rattle.kq_run_gather.proofs.leading.top_all.Goals as goal

pub top_with-requires-clause-lead : goal.top_with-requires-clause-lead
top_with-requires-clause-lead c = c.new-leaders.ensures.lead c.args.count (sorting_of c.args.key.now) (surroundings (to_z w64 (of_z w64 c.args.now)) c.args.lets.now)
