use Rattle.std.proofs.Common.{◌≡◌, ◌+◌, ◌++◌, List, ℕ, map, take, ap, sym, ◌∙◌, arith}
use Rattle.std.specs.Arc.{arc_value}
use Rattle.std.proofs.lemmas.List.{take_all, length-map}
use Rattle.kq_store_extent.specs.Seen.{ExtentView}
use Rattle.kq_store_extent.proofs.Walked.{behind, behind-within}
use Rattle.kq_store_merge.specs.Merges.{tags_in}
use Rattle.kq_store_merge.proofs.TagLemmas.{tags_in-more}
use Rattle.kq_store_merge.proofs.tags.texts_of.Goals as goal

pub loop-extent-preserved : goal.loop-extent-preserved
loop-extent-preserved c =
    let handles = c.args.extents.now in
    let es = map arc_value handles in
    let i = c.loop-extent.extent-index in
    let h = c.extent-item.result in
    let within = c.loop-extent-test.true in
    c.in_ok-add_tags.ensures
    ∙ ap (λ (ts : List (List ℕ)). ts ++ c.tags.result.now) c.loop-extent.invariant
    ∙ ap (λ (ts : List (List ℕ)). tags_in (take i es) ++ ts) (c.tags.ensures ∙ ap (λ (e : ExtentView). e.tags) c.deref.ensures)
    ∙ tags_in-more es i (arc_value h) (behind-within arc_value handles i within) (behind arc_value handles i h within c.extent-item.is)

pub returns : goal.returns
returns c =
    let es = map arc_value c.args.extents.now in
    let n = length-map c.args.extents.now arc_value in
    c.loop-extent.invariant ∙ ap tags_in (take_all c.loop-extent.extent-index es (omega (arith, n)))
