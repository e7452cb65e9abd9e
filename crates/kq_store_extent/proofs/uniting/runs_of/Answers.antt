use Rattle.std.proofs.Common.{◌++◌, List, map, take, ap, ◌∙◌, arith}
use Rattle.std.specs.Arc.{arc_value}
use Rattle.std.proofs.lemmas.List.{take_all, length-map}
use Rattle.kq_value.specs.declared.record_id.RecordId.{RecordId}
use Rattle.kq_store_extent.specs.Seen.{ExtentView, id_of}
use Rattle.kq_store_extent.proofs.Walked.{behind, behind-within, ids_in, ids_in-more}
use Rattle.kq_store_extent.proofs.uniting.runs_of.Goals as goal

pub loop-extent-preserved : goal.loop-extent-preserved
loop-extent-preserved c =
    let handles = c.args.extents.now in
    let es = map arc_value handles in
    let i = c.loop-extent.extent-index in
    let h = c.extent-item.result in
    let within = c.loop-extent-test.true in
    c.in_ok-add_ids.ensures
    ∙ ap (λ (ids : List RecordId). ids ++ map id_of c.deref.result.now.records) c.loop-extent.invariant
    ∙ ap (λ (e : ExtentView). ids_in (take i es) ++ map id_of e.records) c.deref.ensures
    ∙ ids_in-more es i (arc_value h) (behind-within arc_value handles i within) (behind arc_value handles i h within c.extent-item.is)

pub returns : goal.returns
returns c =
    let es = map arc_value c.args.extents.now in
    let n = length-map c.args.extents.now arc_value in
    c.loop-extent.invariant ∙ ap ids_in (take_all c.loop-extent.extent-index es (omega (arith, n)))
