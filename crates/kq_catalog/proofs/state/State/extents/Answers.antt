use Rattle.std.proofs.Common.{◌≡◌, ◌∙◌, List, length, Some, ap, sym, subst, arith}
use Rattle.std.specs.List.{slice_get}
use Rattle.std.specs.List.Sorted.{IsPermutation}
use Rattle.kq_value.specs.declared.schema.Field.{Field}
use Rattle.kq_store_extent.specs.Seen.{HeldExtents, held_records}
use Rattle.kq_store_extent.specs.Wide.{wide_held}
use Rattle.kq_catalog_journal.specs.History.{log}
use Rattle.kq_catalog_journal.specs.Records.{records, extents}
use Rattle.kq_catalog.specs.Held.{AreItems}
use Rattle.kq_catalog.specs.Seen.{CatalogView, Sound, hist}
use Rattle.kq_catalog.proofs.Standing.{count_held, held_at, schema_held, typed_at, few_records}
use Rattle.kq_catalog.proofs.state.State.extents.Goals as goal

pub get-requires : goal.get-requires
get-requires c =
    let v = c.args.self.now in
    let sound : Sound v = subst Sound c.self.view_is c.self.invariant.sound in
    let held : length c.self.inside.tables ≡ length v.held = ap (λ (w : CatalogView). length w.held) c.self.view_is in
    omega (arith, c.requires, count_held v sound, held)

pub returns : goal.returns
returns c =
    let v = c.args.self.now in
    let sound : Sound v = subst Sound c.self.view_is c.self.invariant.sound in
    let at : slice_get v.held c.args.table ≡ Some c.get.result.now = ap (λ (w : CatalogView). slice_get w.held c.args.table) (sym c.self.view_is) ∙ c.get.ensures in
    let held = held_at v c.args.table c.get.result.now sound at in
    record {
      records = subst (λ (fields : List Field). IsPermutation (held_records (wide_held fields c.extents.result.now)) (records (log (hist v)) c.args.table)) (sym (schema_held v c.args.table c.get.result.now sound at))
          (subst (λ (es : HeldExtents). IsPermutation (held_records (wide_held c.get.result.now.table.schema es)) (records (log (hist v)) c.args.table)) (sym c.extents.ensures) held.once);
      items = subst (AreItems (extents (hist v) c.args.table)) (sym c.extents.ensures) held.in_order;
      typed = λ t stands. typed_at v c.args.table c.get.result.now t sound at stands;
      small = few_records v c.args.table sound;
    }
