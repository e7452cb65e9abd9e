use Rattle.std.proofs.Common.{◌≡◌, ◌∙◌, slice_set, refl, ap, sym}
use Rattle.kq_catalog_journal.specs.Edits.{changed}
use Rattle.kq_catalog.specs.Edits.{wider_table}
use Rattle.kq_catalog.specs.Held.{HeldTable}
use Rattle.kq_catalog.proofs.Keeping.{map-changed}
use Rattle.kq_catalog.proofs.Naming.{names_in}
use Rattle.kq_catalog.proofs.Putting.{set-changed}
use Rattle.kq_catalog.proofs.tables.Tables.put_columns.Goals as goal

pub invariant_of-self-2 : goal.invariant_of-self-2
invariant_of-self-2 c =
    let held = c.self.inside.held in
    let n = c.args.table in
    let f = wider_table c.args.cursor c.args.columns in
    let made : c.set.new.self ≡ changed f n held =
    c.in_ok-set.ensures.ok ∙ ap (λ (h : HeldTable). slice_set held n h) (c.in_ok-new.ensures.ok ∙ c.in_ok-held.ensures) ∙ set-changed f n held c.get.result.now c.get.ensures in
    c.self.invariant ∙ sym (map-changed (λ (h : HeldTable). h.table.name) f n held (λ h. refl)) ∙ ap names_in (sym made)

pub returns : goal.returns
returns c =
    let held = c.self.inside.held in
    let n = c.args.table in
    let f = wider_table c.args.cursor c.args.columns in
    c.in_ok-set.ensures.ok ∙ ap (λ (h : HeldTable). slice_set held n h) (c.in_ok-new.ensures.ok ∙ c.in_ok-held.ensures) ∙ set-changed f n held c.get.result.now c.get.ensures
    ∙ ap (changed f n) c.self.view_is
