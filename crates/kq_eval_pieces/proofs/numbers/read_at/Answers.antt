use Rattle.std.proofs.Common.{◌≡◌, ◌<◌, ◌∷◌, [], ◌++◌, ℕ, ℤ, Option, IfSome, get_or, length, sym, subst, ◌∙◌, arith, rules, w64, FitsSigned}
use Rattle.std.proofs.lemmas.Int.{to_z-of_z}
use Rattle.std.proofs.lemmas.List.{map-append, map_more}
use Rattle.kq_store_rows.specs.Chunks.{row_at}
use Rattle.kq_eval_columns.specs.kq_eval_row.Val.{cell_of}
use Rattle.kq_eval_pieces.specs.Numbers.{number_cell}
use Rattle.kq_eval_pieces.proofs.numbers.read_at.Goals as goal

pub loop-place-preserved : goal.loop-place-preserved
loop-place-preserved c =
    let rows = c.args.rows.now in
    let places = c.args.places.now in
    let i = c.loop-place.place-index in
    let n = c.in-Some.number in
    let h : i < length places = omega arith in
    let p : ℕ = get_or places i 0 in
    let fits : FitsSigned w64 n = search rules in
    let is : number_cell c.args.kind n ≡ cell_of (row_at rows p) c.args.j =
    subst (λ (o : Option ℤ). IfSome o (λ z. number_cell c.args.kind z ≡ cell_of (row_at rows p) c.args.j)) c.in-Some.is c.number_at.ensures in
    rw (c.in_ok-push-in-Some.ensures.items, map-append, to_z-of_z w64 n fits)
    ((λ t. c.loop-place.invariant t ++ is t ∷ []) ∙ sym (map_more (λ (k : ℕ). cell_of (row_at rows k) c.args.j) places i 0 h))
