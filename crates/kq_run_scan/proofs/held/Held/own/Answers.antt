use Rattle.kq_store_rows.proofs.Typed.{same_width-wide}
use Rattle.kq_run_scan.proofs.held.Held.own.Goals as goal

pub invariant_of-result : goal.invariant_of-result
invariant_of-result c = same_width-wide c.width-width.result c.args.rows c.width-width.ensures
