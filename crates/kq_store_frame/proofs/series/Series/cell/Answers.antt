use Rattle.std.proofs.Common.{◌≡◌, ◌<◌, Some, ap, length, map, refl, rules, slice_get, subst, sym, to_z, of_z, w64, ◌∙◌, arith}
use Rattle.std.proofs.lemmas.Int.{to_z-of_z}
use Rattle.std.specs.Prelude.{option_map}
use Rattle.std.proofs.lemmas.List.{length-map}
use Rattle.std.proofs.lemmas.Option.{slice_get-map, slice_get_read}
use Rattle.std.proofs.lemmas.Result.{IfOk-weaker}
use Rattle.kq_store_frame.specs.Series.{cell_by, cells_in}
use Rattle.kq_store_frame.specs.declared.series.Series.{Series}
use Rattle.kq_store_frame.proofs.series.Series.cell.Goals as goal

pub returns-in-Numbers : goal.returns-in-Numbers
returns-in-Numbers c =
    let f = cell_by c.in-Numbers.kind in
    let zs = c.in-Numbers.numbers.items in
    let i = c.args.index in
    let there : i < length (map f zs) = subst (λ (s : Series). i < length (cells_in s)) c.in-Numbers.is c.requires in
    let within : i < length zs = omega (arith, there, length-map zs f) in
    let z = c.index.result.now in
    let same : to_z w64 (of_z w64 z) ≡ z = search (rules, to_z-of_z) in
    ap (λ (s : Series). slice_get (cells_in s) i) c.in-Numbers.is ∙ slice_get-map f zs i ∙ ap (option_map f) (slice_get_read zs (length zs) i z refl within c.index.ensures) ∙ ap Some (sym (c.cell.ensures ∙ ap f same))

pub returns-in-Cells : goal.returns-in-Cells
returns-in-Cells c =
    let vs = c.in-Cells.cells.items in
    let i = c.args.index in
    let within : i < length vs = subst (λ (s : Series). i < length (cells_in s)) c.in-Cells.is c.requires in
    let got = ap (λ (s : Series). slice_get (cells_in s) i) c.in-Cells.is ∙ slice_get_read vs (length vs) i c.index-in-Cells.result.now refl within c.index-in-Cells.ensures in
    IfOk-weaker c.clone_in.result _ _ (λ v is. got ∙ ap Some (sym is)) c.clone_in.ensures
