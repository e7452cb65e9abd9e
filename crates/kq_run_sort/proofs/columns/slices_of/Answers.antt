use Rattle.std.proofs.Common.{◌++◌, ◌∷◌, ℤ, [], List, ap, map, sym, ◌∙◌, arith}
use Rattle.std.proofs.lemmas.List.{map-append, map_more, take_all}
use Rattle.kq_store_frame.specs.Series.{cell_by}
use Rattle.kq_run_sort.specs.Parts.{part_column}
use Rattle.kq_run_sort.specs.declared.parts.Part.{Part}
use Rattle.kq_run_sort.proofs.columns.slices_of.Goals as goal
use denote.Ref.{Bor}

pub loop-part-preserved : goal.loop-part-preserved
loop-part-preserved c =
    let f = λ (xs : Bor (List ℤ)). map (cell_by c.args.kind) xs.now in
    let g = part_column c.args.j in
    let parts = c.args.parts.now in
    let i = c.loop-part.part-index in
    let p = c.part-item.result in
    ap (map f) c.in_ok-push-in-Some.ensures.items ∙ map-append f c.loop-part.slices.items (c.in-Some.numbers ∷ [])
    ∙ (λ t. c.loop-part.invariant t ++ (c.in-Some.ensures ∙ ap g c.part-item.is) t ∷ []) ∙ sym (map_more g parts i p c.loop-part-test.true)

pub returns : goal.returns
returns c = c.loop-part.invariant ∙ ap (λ (ps : List Part). map (part_column c.args.j) ps) (take_all c.loop-part.part-index c.args.parts.now (omega (arith, c.loop-part-test.false)))
