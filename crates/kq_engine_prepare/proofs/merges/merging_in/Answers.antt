use Rattle.std.proofs.Common.{◌≡◌, ◌∙◌, All, List, map, Some, ap, refl, subst, sym}
use Rattle.kq_value.specs.Typed.{HasTypes}
use Rattle.kq_store_extent.specs.Seen.{ExtentView, records_in, row_of}
use Rattle.kq_store_extent.specs.Wide.{wide}
use Rattle.kq_store_merge.specs.Merges.{merge_of, picked_of}
use Rattle.kq_engine_prepare.proofs.Picking.{some_picked, typed_picked, union_picked}
use Rattle.kq_engine_prepare.proofs.merges.merging_in.Goals as goal

pub merged-requires : goal.merged-requires
merged-requires c =
    let held = c.extents.result.now in
    let table = c.args.table.now in
    let some : Some c.in-Some.picked ≡ picked_of held.small = sym c.in-Some.is ∙ c.in_ok-picked.ensures in
    let picked = some_picked held.small c.in-Some.picked some in
    subst (λ (es : List ExtentView). All (HasTypes table.schema) (map row_of (records_in (map (wide table.schema) es)))) (sym picked.are)
    (typed_picked c.args.snapshot.now.history c.args.number table held c.requires c.extents.ensures.records (c.extents.ensures.typed table c.requires))

pub returns-in_ok-merged-in-Some : goal.returns-in_ok-merged-in-Some
returns-in_ok-merged-in-Some c =
    let held = c.extents.result.now in
    let table = c.args.table.now in
    let some : Some c.in-Some.picked ≡ picked_of held.small = sym c.in-Some.is ∙ c.in_ok-picked.ensures in
    let picked = some_picked held.small c.in-Some.picked some in
    union_picked c.args.snapshot.now.history c.args.number table held (record { table = c.args.number; old = c.in_ok-ids_of-in-Some.field-0; extent = c.in_ok-merged-in-Some.field-0 }) c.requires c.extents.ensures.records c.extents.ensures.items picked.some
    (record {
      table = refl;
      old = c.in_ok-ids_of-in-Some.ensures ∙ ap (map (λ (e : ExtentView). e.id)) (c.as_slice.ensures ∙ picked.are);
      id = 0;
      extent = c.in_ok-merged-in-Some.ensures ∙ ap (λ (es : List ExtentView). merge_of 0 (map (wide table.schema) es)) picked.are;
    })
