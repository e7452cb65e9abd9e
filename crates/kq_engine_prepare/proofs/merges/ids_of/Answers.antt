use Rattle.std.proofs.Common.{◌++◌, ◌∷◌, [], List, ℕ, map, take, ap, ◌∙◌, arith}
use Rattle.std.specs.Arc.{arc_value}
use Rattle.std.proofs.lemmas.List.{take_all, length-map}
use Rattle.kq_store_extent.specs.Seen.{ExtentView}
use Rattle.kq_store_extent.proofs.Walked.{behind, behind-within}
use Rattle.kq_engine_prepare.proofs.Picking.{ids_more}
use Rattle.kq_engine_prepare.proofs.merges.ids_of.Goals as goal

abbrev ids : List ExtentView → List ℕ
ids = map (λ (e : ExtentView). e.id)

pub loop-extent-preserved : goal.loop-extent-preserved
loop-extent-preserved c =
    let handles = c.args.extents.now in
    let es = map arc_value handles in
    let i = c.loop-extent.extent-index in
    let h = c.extent-item.result in
    let within = c.loop-extent-test.true in
    c.in_ok-push.ensures.ok
    ∙ ap (λ (ns : List ℕ). ns ++ c.id.result ∷ []) c.loop-extent.invariant
    ∙ ap (λ (n : ℕ). ids (take i es) ++ n ∷ []) (c.id.ensures ∙ ap (λ (e : ExtentView). e.id) c.deref.ensures)
    ∙ ids_more es i (arc_value h) (behind-within arc_value handles i within) (behind arc_value handles i h within c.extent-item.is)

pub returns : goal.returns
returns c =
    let es = map arc_value c.args.extents.now in
    let n = length-map c.args.extents.now arc_value in
    c.loop-extent.invariant ∙ ap ids (take_all c.loop-extent.extent-index es (omega (arith, n)))
