use Rattle.std.proofs.Common.{ap, sym, ◌∙◌}
use Rattle.std.specs.Ordering.{is_lt}
use Rattle.kq_plan.specs.Plans.{sorting_of}
use Rattle.kq_run_sort.proofs.Leading.{lead_skip}
use Rattle.kq_run_sort.proofs.leaders.Leaders.asks_for.Goals as goal

pub returns-in-Some : goal.returns-in-Some
returns-in-Some c refused n s all r is lead =
    lead_skip n (sorting_of c.args.key.now) s all r c.args.self.now c.in-Some.bound c.args.value.now c.in-Some.is is (ap is_lt (sym c.compare_values.ensures) ∙ (sym c.is_lt.ensures ∙ refused)) lead
