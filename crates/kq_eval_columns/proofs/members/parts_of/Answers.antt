use Rattle.std.proofs.Common.{◌≡◌, ◌<◌, List, map, length, [], ◌∷◌, ◌++◌, arith, add-one, subst}
use Rattle.std.proofs.lemmas.List.{map-append, take_all}
use Rattle.kq_value.specs.declared.value.Value.{Value}
use Rattle.kq_store_column_view.specs.Vectors.{member_at}
use Rattle.kq_eval_columns.specs.Seen.{cells_in_parts}
use Rattle.kq_eval_columns.proofs.Rows.{map_more}
use Rattle.kq_eval_columns.proofs.members.parts_of.Goals as goal

pub loop-cell-preserved : goal.loop-cell-preserved
loop-cell-preserved c =
    let cells = c.args.cells.now in
    let i = c.loop-cell.cell-index in
    let h : i < length cells = omega arith in
    let p = c.part_of.ensures in
    rw (c.in_ok-push.ensures.items, add-one, map-append, map_more (member_at c.args.key.now) cells i c.cell-item.result h c.cell-item.is) (λ j. c.loop-cell.invariant j ++ p j ∷ [])

pub returns : goal.returns
returns c =
    subst (λ (xs : List Value). cells_in_parts c.loop-cell.parts.items ≡ map (member_at c.args.key.now) xs) (take_all c.loop-cell.cell-index c.args.cells.now (omega arith)) c.loop-cell.invariant
