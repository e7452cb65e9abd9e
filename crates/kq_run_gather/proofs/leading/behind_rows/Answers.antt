use Rattle.std.proofs.Common.{◌≡◌, ◌++◌, IfOk, List, subst, sym}
use Rattle.kq_run_scan.specs.kq_eval_pieces.Operators.{Row}
use Rattle.kq_run_scan.specs.kq_eval_row.Val.{surroundings}
use Rattle.kq_plan.specs.Plans.{sorting_of}
use Rattle.kq_run_gather.specs.Leading.{AreFirst, HaveWidth, LeadTogether}
use Rattle.kq_run_gather.specs.declared.leading.Leading.{Leading}
use Rattle.kq_run_gather.specs.declared.leading.Leading.TheVariants as leading
use Rattle.kq_run_gather.proofs.Coming.{even}
use Rattle.kq_run_gather.proofs.leading.behind_rows.Goals as goal

pub append-requires : goal.append-requires
append-requires c =
    let (w, first, rest) = c.requires in
    even w c.args.rows c.in-Rows.others first (subst (λ (l : Leading). HaveWidth w l) c.in-Rows.is rest)

pub returns-in_ok-append-in-Rows : goal.returns-in_ok-append-in-Rows
returns-in_ok-append-in-Rows c =
    let t = c.args.asked.now in
    let both : c.append.new.self ≡ c.args.rows ++ c.in-Rows.others = c.in_ok-append-in-Rows.ensures.ok in
    let first = subst (λ (rs : List Row). IfOk c.first_of.result (AreFirst t.count (sorting_of t.key.now) (surroundings t.pipeline.moment t.pipeline.lets.now) rs)) both c.first_of.ensures in
    subst (λ (l : Leading). IfOk c.first_of.result (LeadTogether t (leading.Rows c.args.rows) l)) (sym c.in-Rows.is) first
