use Rattle.std.proofs.Common.{◌≡◌, ◌∷◌, [], ◌++◌, ℤ, Option, IfSome, sym, subst, ◌∙◌, arith, add-one, rules, w64, FitsSigned}
use Rattle.std.proofs.lemmas.Int.{to_z-of_z}
use Rattle.std.proofs.lemmas.List.{map-append}
use Rattle.kq_store_rows.specs.Chunks.{row_at}
use Rattle.kq_eval_columns.specs.kq_eval_row.Val.{cell_of}
use Rattle.kq_eval_pieces.specs.Numbers.{number_cell}
use Rattle.kq_eval_pieces.proofs.Standing.{column_next}
use Rattle.kq_eval_pieces.proofs.numbers.read_between.Goals as goal

pub loop-i-preserved : goal.loop-i-preserved
loop-i-preserved c =
    let rows = c.args.rows.now in
    let n = c.in-Some.number in
    let fits : FitsSigned w64 n = search rules in
    let is : number_cell c.args.kind n ≡ cell_of (row_at rows c.loop-i.i) c.args.j =
    subst (λ (o : Option ℤ). IfSome o (λ z. number_cell c.args.kind z ≡ cell_of (row_at rows c.loop-i.i) c.args.j)) c.in-Some.is c.number_at.ensures in
    rw (c.in_ok-push-in-Some.ensures.items, add-one, map-append, to_z-of_z w64 n fits)
    ((λ t. c.loop-i.invariant t ++ is t ∷ []) ∙ sym (column_next rows c.args.from c.loop-i.i c.args.j (omega arith) (omega arith)))
