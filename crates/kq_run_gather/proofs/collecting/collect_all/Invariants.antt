use Rattle.std.proofs.Common.{◌≡◌}
use Rattle.kq_run_gather.proofs.Coming.{AreKept}
use Rattle.kq_run_gather.proofs.collecting.collect_all.Given as goal

abbrev pub invariant-loop-rows : goal.invariant-loop-rows
invariant-loop-rows l = record {
  kept : AreKept l.fn.flow.to_come l.flow.to_come l.fn.flow.width l.rows;
  width : l.flow.width ≡ l.fn.flow.width;
}

abbrev pub decreases-loop-rows : goal.decreases-loop-rows
decreases-loop-rows l = l.flow.left
