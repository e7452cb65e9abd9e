use Rattle.std.proofs.Common.{◌≡◌, ◌++◌, ◌∷◌, [], Some, ap, sym, subst, ◌∙◌, length, List, arith}
use Rattle.std.specs.List.{All, slice_get}
use Rattle.std.proofs.lemmas.Option.{slice_get-get_or}
use Rattle.kq_value.specs.declared.value.Value.{Value}
use Rattle.kq_store_rows.specs.Chunks.{HasWidth}
use Rattle.kq_store_extent.proofs.Across.{take_next, wide_next}
use Rattle.kq_run_scan.proofs.first.add_first.Goals as goal

pub push_from-requires : goal.push_from-requires
push_from-requires g c =
    let all = g.R.Relation.rows c.args.rows.now in
    let i = c.loop-i.i in
    let row = c.copy_row.new.row.items in
    let got : slice_get all i ≡ Some row = slice_get-get_or all i [] (omega arith) ∙ ap Some (sym {A = List Value} c.in_ok-copy_row.ensures) in
    subst (λ (rs : List (List Value)). All (HasWidth (length row)) rs) (sym c.loop-i.invariant.1) (wide_next c.args.few.now all i row c.requires got)

pub loop-i-preserved : goal.loop-i-preserved
loop-i-preserved g c =
    let all = g.R.Relation.rows c.args.rows.now in
    let i = c.loop-i.i in
    let row = c.copy_row.new.row.items in
    let got : slice_get all i ≡ Some row = slice_get-get_or all i [] (omega arith) ∙ ap Some (sym {A = List Value} c.in_ok-copy_row.ensures) in
    (c.in_ok-push_from.ensures.left, c.in_ok-push_from.ensures.ok ∙ (λ t. c.loop-i.invariant.1 t ++ row ∷ []) ∙ take_next c.args.few.now all i row got)
