use Rattle.std.proofs.Common.{ap, ◌∙◌, length, arith, List}
use Rattle.kq_value.specs.declared.record_id.RecordId.{RecordId}
use Rattle.kq_store_rows.specs.Numbered.{numbered}
use Rattle.kq_store_extent.specs.declared.run.Run.{Run}
use Rattle.kq_store_extent.specs.Seen.{DraftView, ExtentView}
use Rattle.kq_store_extent.specs.Runs.{ids_by, named}
use Rattle.kq_store_extent.proofs.Named.{named-one, length-one, range-one, only}
use Rattle.kq_store_extent.proofs.draft.Draft.stamp.Goals as goal

pub from_vec-requires : goal.from_vec-requires
from_vec-requires c =
    let run : Run = record { cursor = c.args.cursor; first = c.args.first; count = c.len-count.result } in
    let n = ap (λ (d : DraftView). length d.rows) c.self.view_is in
    range-one _ run (only _ _ run c.self.invariant.0 c.push_reserved.ensures.items) (omega (arith, n, c.len-count.ensures.count, c.requires))

pub from_parts-requires : goal.from_parts-requires
from_parts-requires c =
    let run : Run = record { cursor = c.args.cursor; first = c.args.first; count = c.len-count.result } in
    ap length c.from_vec.ensures ∙ length-one _ run (only _ _ run c.self.invariant.0 c.push_reserved.ensures.items) ∙ c.len-count.ensures.count

pub returns : goal.returns
returns c =
    let run : Run = record { cursor = c.args.cursor; first = c.args.first; count = c.len-count.result } in
    let s = c.self.inside in
    let one = only _ _ run c.self.invariant.0 c.push_reserved.ensures.items in
    let stamped : DraftView → ExtentView = λ d. record { id = c.args.id; records = numbered c.args.cursor c.args.first d.rows; tags = d.tags } in
    c.from_parts.ensures
    ∙ (λ i. record { id = c.args.id; records = (ap (λ (ids : List RecordId). named ids s.columns) (c.from_vec.ensures ∙ ap ids_by one) ∙ named-one run s.columns c.len-count.ensures.count) i; tags = s.tags })
    ∙ ap stamped c.self.view_is
