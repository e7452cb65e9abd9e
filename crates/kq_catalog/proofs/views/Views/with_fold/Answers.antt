use Rattle.std.proofs.Common.{◌≡◌, ◌∙◌, slice_set, refl, ap, sym}
use Rattle.kq_catalog_journal.specs.Edits.{changed}
use Rattle.kq_catalog.specs.Views.{HeldView, folded_view, names_held}
use Rattle.kq_catalog.proofs.Keeping.{map-changed}
use Rattle.kq_catalog.proofs.Putting.{set-changed}
use Rattle.kq_catalog.proofs.views.Views.with_fold.Goals as goal

pub invariant_of-result : goal.invariant_of-result
invariant_of-result c =
    let held = c.self.inside.held in
    let n = c.args.number in
    let f = folded_view c.args.to c.args.part in
    let made : c.set.new.self ≡ changed f n held =
    c.in_ok-set.ensures.ok ∙ ap (λ (h : HeldView). slice_set c.in_ok-held.held n h) (c.in_ok-new.ensures.ok ∙ c.in_ok-folded.ensures) ∙ ap (λ hs. slice_set hs n (f c.get.result.now)) c.in_ok-held.ensures ∙ set-changed f n held c.get.result.now c.get.ensures in
    c.in_ok-names.ensures ∙ c.self.invariant ∙ sym (map-changed (λ (h : HeldView). h.view.name) f n held (λ h. refl)) ∙ ap names_held (sym made)

pub returns : goal.returns
returns c =
    let held = c.self.inside.held in
    let n = c.args.number in
    let f = folded_view c.args.to c.args.part in
    c.in_ok-set.ensures.ok ∙ ap (λ (h : HeldView). slice_set c.in_ok-held.held n h) (c.in_ok-new.ensures.ok ∙ c.in_ok-folded.ensures) ∙ ap (λ hs. slice_set hs n (f c.get.result.now)) c.in_ok-held.ensures ∙ set-changed f n held c.get.result.now c.get.ensures
    ∙ ap (changed f n) c.self.view_is
