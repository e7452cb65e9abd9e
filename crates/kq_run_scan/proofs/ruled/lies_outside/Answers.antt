use Rattle.std.proofs.Common.{ap, sym, ◌∙◌}
use Rattle.std.specs.Ordering.{is_lt}
use Rattle.kq_run_scan.proofs.LeftOut.{outside_before, outside_behind}
use Rattle.kq_run_scan.proofs.ruled.lies_outside.Goals as goal

pub returns-then-is_lt : goal.returns-then-is_lt
returns-then-is_lt c told =
    outside_before c.args.value.now c.args.least.now c.args.greatest.now (c.is_dynamic.ensures c.if-is_dynamic.false) (c.is_dynamic-else-is_dynamic.ensures c.if-is_dynamic-2.false)
    (sym (c.is_lt.ensures ∙ ap is_lt c.cmp.ensures) ∙ told)

pub returns-else-is_lt : goal.returns-else-is_lt
returns-else-is_lt c told =
    outside_behind c.args.value.now c.args.least.now c.args.greatest.now (c.is_dynamic.ensures c.if-is_dynamic.false) (c.is_dynamic-else-is_dynamic.ensures c.if-is_dynamic-2.false)
    (sym (c.is_lt-else-is_lt.ensures ∙ ap is_lt c.cmp-else-is_lt.ensures) ∙ told)
