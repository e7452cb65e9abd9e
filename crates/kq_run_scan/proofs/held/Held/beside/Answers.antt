use Rattle.kq_run_scan.specs.Lent.{rows_held}
use Rattle.kq_run_scan.proofs.Pairing.{found_even}
use Rattle.kq_run_scan.proofs.held.Held.beside.Goals as goal

pub invariant_of-result : goal.invariant_of-result
invariant_of-result g c =
    found_even c.args.width c.args.others_width c.args.others (g.F.Finder.found c.args.finder.now) (rows_held c.in_ok-share.field-0) c.in-Some.rows (rw c.in-Some.is at c.in_ok-rows.ensures)
