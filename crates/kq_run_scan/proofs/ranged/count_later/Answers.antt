use Rattle.std.proofs.Common.{sym, ◌∙◌}
use Rattle.kq_run_scan.proofs.Later.{read_later, read_none}
use Rattle.kq_run_scan.proofs.ranged.count_later.Goals as goal

pub returns-then-is_later : goal.returns-then-is_later
returns-then-is_later c = c.len.ensures.count ∙ read_later c.args.above c.args.extent.now (sym c.is_later.ensures ∙ c.if-is_later.true)

pub returns-else-is_later : goal.returns-else-is_later
returns-else-is_later c = read_none c.args.above c.args.extent.now (sym c.is_later.ensures ∙ c.if-is_later.false)
