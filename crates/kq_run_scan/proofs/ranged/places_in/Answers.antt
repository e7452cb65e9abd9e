use Rattle.std.proofs.Common.{sym, ◌∙◌}
use Rattle.kq_run_scan.proofs.InRange.{passed_over}
use Rattle.kq_run_scan.proofs.ranged.places_in.Goals as goal

pub returns-else-is_later : goal.returns-else-is_later
returns-else-is_later c = c.new.ensures.items ∙ passed_over c.args.above c.args.to c.args.extent.now (sym c.is_later.ensures ∙ c.if-is_later.false)
