-- The tests of its steps tell whether a plan has such a body.
use Rattle.std.proofs.Common.{◌≡◌, true, false}
use Rattle.std.specs.List.{list_any}
use Rattle.kq_policy_entries.specs.Policies.{reads_table}
use Rattle.kq_policy_moments.specs.kq_catalog_journal.PolicyBodies.{reads_view, asks_moment}
use Rattle.kq_policy_entries.proofs.Judged.{body_passes, passes_body}
use Rattle.kq_policy_entries.proofs.body.is_policy_body.Goals as goal
use Rattle.kq_policy_entries.proofs.body.is_policy_body.Goals.{then-some_reads_view-via-then-some_reads_view, then-some_reads_view-via-else-some_reads_view+then-some_asks_moment}
use Rattle.kq_plan.specs.Plans.{Planned, planned_of}

pub returns-then-some_reads_view : goal.returns-then-some_reads_view
returns-then-some_reads_view c = (
  λ f. absurd (cc),
  λ b.
      let so = passes_body c.args.source.now (planned_of c.args.plan.now) b in
      elim c.then-some_reads_view.branch [
        | then-some_reads_view-via-then-some_reads_view w ↦ let views = so.0 in cc
        | then-some_reads_view-via-else-some_reads_view+then-some_asks_moment w ↦ let moments = so.2 in cc
      ],
)

pub returns : goal.returns
returns c =
    let p : Planned = planned_of c.args.plan.now in
    let views : list_any reads_view p.steps ≡ false = cc in
    let moments : list_any asks_moment p.steps ≡ false = cc in (
      λ found. let tables : list_any (reads_table c.args.source.now) p.steps ≡ true = cc in body_passes c.args.source.now p views tables moments,
      λ b. let tables = (passes_body c.args.source.now p b).1 in cc,
    )
