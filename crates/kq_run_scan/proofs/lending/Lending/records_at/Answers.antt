use Rattle.std.proofs.Common.{◌≡◌, ◌∙◌, List, ap, length, Some, slice_get, sym, arith}
use Rattle.std.specs.Arc.{arc_value}
use Rattle.std.specs.Option.{option_map}
use Rattle.std.proofs.lemmas.List.{length-map}
use Rattle.std.proofs.lemmas.Option.{slice_get-map}
use Rattle.kq_value.specs.declared.schema.Field.{Field}
use Rattle.kq_store_extent.specs.Seen.{ExtentView, HeldExtents, held_extents}
use Rattle.kq_store_extent.specs.Wide.{wide}
use Rattle.kq_store_extent.proofs.Wide.{held_extents-wide}
use Rattle.kq_store_extent.proofs.kq_store_shared_lists.Rows.{StandsAt-get}
use Rattle.kq_run_scan.proofs.lending.Lending.records_at.Goals as goal

pub part_from-requires : goal.part_from-requires
part_from-requires c =
    let s = c.self.inside in
    let same : length (held_extents c.args.self.now) ≡ length (held_extents s.extents) =
    ap (λ (held : HeldExtents). length (held_extents held)) (sym c.self.view_is) ∙ ap length (held_extents-wide s.schema s.extents) ∙ length-map (held_extents s.extents) (wide s.schema) in
    omega (arith, same, c.requires)

pub returns : goal.returns
returns c =
    let s = c.self.inside in
    let es = held_extents s.extents in
    let at = c.args.at in
    let same : length (held_extents c.args.self.now) ≡ length es =
    ap (λ (held : HeldExtents). length (held_extents held)) (sym c.self.view_is) ∙ ap length (held_extents-wide s.schema s.extents) ∙ length-map es (wide s.schema) in
    let got = StandsAt-get arc_value es at c.part_from.result.now c.index-part_from-0.result (omega (arith, same, c.requires)) c.part_from.ensures.some c.index-part_from-0.is c.part_from.ensures.items in
    ap (λ (held : HeldExtents). slice_get (held_extents held) at) (sym c.self.view_is) ∙ ap (λ (xs : List ExtentView). slice_get xs at) (held_extents-wide s.schema s.extents)
    ∙ slice_get-map (wide s.schema) es at ∙ ap (option_map (wide s.schema)) got
    ∙ ap (λ (e : ExtentView). Some (wide s.schema e)) (sym c.deref.ensures) ∙ ap (λ (fields : List Field). Some (wide fields c.deref.result.now)) (sym c.as_slice.ensures)
