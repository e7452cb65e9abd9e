use Rattle.std.proofs.Common.{◌≡◌, length, ap, sym, ◌∙◌, arith}
use Rattle.std.proofs.lemmas.List.{length-map}
use Rattle.kq_store_extent.specs.Seen.{HeldExtents, held_records}
use Rattle.kq_store_extent.proofs.Wide.{held_records-wide}
use Rattle.kq_store_extent.specs.kq_store_rows.Widened.{widened_record}
use Rattle.kq_run_scan.proofs.lending.Lending.count_records.Goals as goal

pub count_records-requires : goal.count_records-requires
count_records-requires c =
    let s = c.self.inside in
    let same : length (held_records c.args.self.now) ≡ length (held_records s.extents) =
    ap (λ (held : HeldExtents). length (held_records held)) (sym c.self.view_is) ∙ ap length (held_records-wide s.schema s.extents) ∙ length-map (held_records s.extents) (widened_record s.schema) in
    omega (arith, same, c.requires)

pub returns : goal.returns
returns c =
    let s = c.self.inside in
    let same : length (held_records c.args.self.now) ≡ length (held_records s.extents) =
    ap (λ (held : HeldExtents). length (held_records held)) (sym c.self.view_is) ∙ ap length (held_records-wide s.schema s.extents) ∙ length-map (held_records s.extents) (widened_record s.schema) in
    c.count_records.ensures ∙ sym same
