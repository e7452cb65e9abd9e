use Rattle.kq_store_extent.specs.Seen.{held_records}
use Rattle.kq_run_scan.specs.Unread.{rows_among}
use Rattle.kq_run_scan.proofs.InRange.{even_between}
use Rattle.kq_run_scan.proofs.held.Held.between.Goals as goal

pub invariant_of-result : goal.invariant_of-result
invariant_of-result c = even_between c.args.above c.args.to c.args.schema (held_records c.args.extents) (rows_among c.in_ok-rows.rows) c.in_ok-rows.ensures
