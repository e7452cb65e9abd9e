use Rattle.std.proofs.Common.{◌≡◌, ◌∙◌, ◌<◌, ◌^◌, ap, length, subst, arith}
use Rattle.std.specs.Arc.{arc_value}
use Rattle.kq_store_extent.specs.Seen.{ExtentView}
use Rattle.kq_store_rows.specs.Numbered.{numbered}
use Rattle.kq_policy_run.proofs.LaidOut.{put-holds}
use Rattle.kq_policy_run.proofs.laying.lay_out.Goals as goal

pub returns : goal.returns
returns c =
    let rows = c.args.rows.now in
    let e = arc_value c.in_ok-extent.extent in
    let drawn : c.in_ok-draft.draft.rows ≡ rows = c.in_ok-draft.ensures in
    let records : e.records ≡ numbered 0 0 rows =
    ap (λ (x : ExtentView). x.records) (c.in_ok-extent.ensures.ok ∙ c.stamp.ensures) ∙ ap (numbered 0 0) drawn in
    let small : length rows < 2 ^ 63 = subst (λ rs. length rs < 2 ^ 63) drawn (omega (arith, c.len-count.ensures.count, c.len-count.ensures.small)) in
    put-holds rows e c.new-extents.result c.push.new.self records c.new-extents.ensures c.in_ok-push.ensures.ok small
