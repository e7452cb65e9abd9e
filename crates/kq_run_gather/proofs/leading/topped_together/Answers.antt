use Rattle.std.proofs.Common.{subst, sym}
use Rattle.kq_run_gather.specs.Leading.{HaveWidth, LeadTogether}
use Rattle.kq_run_gather.specs.declared.leading.Leading.{Leading}
use Rattle.kq_run_gather.proofs.leading.topped_together.Goals as goal

pub behind_rows-requires : goal.behind_rows-requires
behind_rows-requires c =
    let (w, first, rest) = c.requires in
    (w, subst (λ (l : Leading). HaveWidth w l) c.in-Rows.is first, rest)

pub returns-in-Overflow : goal.returns-in-Overflow
returns-in-Overflow c = subst (λ (l : Leading). LeadTogether c.args.asked.now l c.args.rest c.behind_overflow.result) (sym c.in-Overflow.is) (c.behind_overflow.ensures c.args.asked.now)

pub returns-in-Failed : goal.returns-in-Failed
returns-in-Failed c = subst (λ (l : Leading). LeadTogether c.args.asked.now l c.args.rest c.behind_failure.result) (sym c.in-Failed.is) (c.behind_failure.ensures c.args.asked.now)
