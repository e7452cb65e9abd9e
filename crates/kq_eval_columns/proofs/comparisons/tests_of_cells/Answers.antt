use Rattle.std.proofs.Common.{◌≡◌, ◌<◌, List, length, [], ◌∷◌, ◌++◌, arith, add-one, subst}
use Rattle.std.proofs.lemmas.List.{map-append, take_all}
use Rattle.kq_value.specs.declared.value.Value.{Value}
use Rattle.kq_eval_columns.specs.Seen.{beside_one, paired, truths_of}
use Rattle.kq_eval_columns.proofs.Rows.{map_more}
use Rattle.kq_eval_columns.proofs.comparisons.tests_of_cells.Goals as goal

pub loop-cell-preserved : goal.loop-cell-preserved
loop-cell-preserved c =
    let cells = c.args.cells.now in
    let i = c.loop-cell.cell-index in
    let h : i < length cells = omega arith in
    let p = c.in-Some.ensures in
    rw (c.in_ok-push-in-Some.ensures.items, add-one, map-append, map_more (λ (x : Value). paired c.args.function x c.args.value.now) cells i c.cell-item.result h c.cell-item.is) (λ j. c.loop-cell.invariant j ++ p j ∷ [])

pub returns : goal.returns
returns c =
    subst (λ (xs : List Value). beside_one c.args.function c.args.value.now xs ≡ truths_of c.loop-cell.truths.items) (take_all c.loop-cell.cell-index c.args.cells.now (omega arith)) c.loop-cell.invariant
