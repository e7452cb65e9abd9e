use Rattle.std.proofs.Common.{◌≡◌, ◌+◌, ◌++◌, ◌∷◌, ℕ, [], length, ap, sym, ◌∙◌, subst, arith}
use Rattle.std.specs.Arc.{arc_value}
use Rattle.kq_catalog_journal.specs.declared.event.Event.{Event}
use Rattle.kq_catalog_journal.specs.declared.event.Operation.TheVariants as operation
use Rattle.kq_catalog_journal.specs.Edits.{changed}
use Rattle.kq_catalog_journal.specs.Records.{extents_made, small_items}
use Rattle.kq_store_extent.specs.Seen.{ExtentView}
use Rattle.kq_catalog.specs.Edits.{with_merged}
use Rattle.kq_catalog.specs.Merges.{IsInFront, WasPicked, merge_event}
use Rattle.kq_catalog.specs.Seen.{CatalogView, hist}
use Rattle.kq_catalog.proofs.Merged.{HoldsHistory-merge, merged_now, table_stands}
use Rattle.kq_catalog.proofs.Standing.{count_held, made_few}
use Rattle.kq_catalog.proofs.state.State.with_merge.Goals as goal

pub overflow_add-new : goal.overflow_add-new
overflow_add-new c =
    let v : CatalogView = record { limits = c.self.inside.limits; history = c.self.inside.journal; held = c.self.inside.tables; policies = c.self.inside.policies; views = c.self.inside.views; failures = c.self.inside.failures } in
    let few = made_few v c.self.invariant.sound in
    let place = ap (λ (w : CatalogView). length (hist w)) c.self.view_is in
    omega (arith, c.self.invariant.made_count, few, place, c.place-place.ensures.place, c.place-place.ensures.small)

pub with_merged-requires-clause-stands : goal.with_merged-requires-clause-stands
with_merged-requires-clause-stands c =
    let v : CatalogView = record { limits = c.self.inside.limits; history = c.self.inside.journal; held = c.self.inside.tables; policies = c.self.inside.policies; views = c.self.inside.views; failures = c.self.inside.failures } in
    let m = c.args.merging in
    let picked : WasPicked (hist v) m = subst (λ (w : CatalogView). WasPicked (hist w) m) (sym c.self.view_is) c.requires.picked in
    let stands = table_stands v m c.self.invariant.sound picked in
    omega (arith, stands, count_held v c.self.invariant.sound)

pub with_merged-requires-clause-some : goal.with_merged-requires-clause-some
with_merged-requires-clause-some c = λ h at.
    let v : CatalogView = record { limits = c.self.inside.limits; history = c.self.inside.journal; held = c.self.inside.tables; policies = c.self.inside.policies; views = c.self.inside.views; failures = c.self.inside.failures } in
    let m = c.args.merging in
    let picked : WasPicked (hist v) m = subst (λ (w : CatalogView). WasPicked (hist w) m) (sym c.self.view_is) c.requires.picked in
    let front : IsInFront (small_items (hist v) m.table) m.old = subst (λ (w : CatalogView). IsInFront (small_items (hist w) m.table) m.old) (sym c.self.view_is) c.requires.front in
    let now = merged_now v m h c.self.invariant.sound picked front at in
    omega (arith, now.within, c.len.ensures)

pub invariant_of-result : goal.invariant_of-result
invariant_of-result c =
    let now = c.args.self.now in
    let v : CatalogView = record { limits = c.self.inside.limits; history = c.self.inside.journal; held = c.self.inside.tables; policies = c.self.inside.policies; views = c.self.inside.views; failures = c.self.inside.failures } in
    let m = c.args.merging in
    let picked : WasPicked (hist v) m = subst (λ (w : CatalogView). WasPicked (hist w) m) (sym c.self.view_is) c.requires.picked in
    let front : IsInFront (small_items (hist v) m.table) m.old = subst (λ (w : CatalogView). IsInFront (small_items (hist w) m.table) m.old) (sym c.self.view_is) c.requires.front in
    let new : c.self.inside.made + 1 ≡ 1 + extents_made (hist v) = omega (arith, c.self.invariant.made_count) in
    let e : ℕ → ExtentView = λ n. record { id = n; records = m.extent.records; tags = m.extent.tags } in
    let journal : c.in_ok-journal.journal ≡ hist v ++ merge_event c.args.by (1 + extents_made (hist v)) m ∷ [] =
    c.in_ok-journal.ensures ∙ ap (λ (n : ℕ). let event : Event = record { by = c.args.by; operation = operation.Merge m.table m.old n } in hist now ++ event ∷ []) new
    ∙ ap (λ (w : CatalogView). hist w ++ merge_event c.args.by (1 + extents_made (hist v)) m ∷ []) (sym c.self.view_is) in
    let extent : arc_value c.in_ok-extent.extent ≡ e (1 + extents_made (hist v)) = c.in_ok-extent.ensures.ok ∙ c.with_id.ensures ∙ ap e new in
    let tables : c.in_ok-tables.tables ≡ changed (with_merged (length m.old) (e (1 + extents_made (hist v)))) m.table v.held =
    c.in_ok-tables.ensures ∙ ap (λ (n : ℕ). changed (with_merged n (arc_value c.in_ok-extent.extent)) m.table v.held) c.len.ensures
    ∙ ap (λ (x : ExtentView). changed (with_merged (length m.old) x) m.table v.held) extent in
    rw (journal, tables, c.in_ok-rest.ensures.policies, c.in_ok-rest.ensures.views, c.in_ok-rest.ensures.failures, c.in_ok-rest.ensures.tags) (HoldsHistory-merge v c.self.inside.cursor c.self.inside.made c.args.by m c.self.inside.tags c.self.invariant picked front)

pub returns-clause-history : goal.returns-clause-history
returns-clause-history c =
    let now = c.args.self.now in
    let m = c.args.merging in
    let same = ap (λ (w : CatalogView). extents_made (hist w)) c.self.view_is in
    let new : c.self.inside.made + 1 ≡ 1 + extents_made (hist now) = omega (arith, c.self.invariant.made_count, same) in
    c.in_ok-journal.ensures ∙ ap (λ (n : ℕ). let event : Event = record { by = c.args.by; operation = operation.Merge m.table m.old n } in hist now ++ event ∷ []) new
