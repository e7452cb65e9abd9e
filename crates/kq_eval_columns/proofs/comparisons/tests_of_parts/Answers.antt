use Rattle.std.proofs.Common.{◌≡◌, ◌<◌, List, Option, length, [], ◌∷◌, ◌++◌, arith, add-one, subst}
use Rattle.std.proofs.lemmas.List.{map-append, take_all}
use Rattle.std.specs.Borrow.{Bor}
use Rattle.kq_value.specs.declared.dynamic.Dyn.{Dyn}
use Rattle.kq_eval_columns.specs.Seen.{beside_one, cells_in_parts, part_cell, truths_of}
use Rattle.kq_eval_columns.proofs.Rows.{map_more}
use Rattle.kq_eval_columns.proofs.comparisons.tests_of_parts.Goals as goal

pub loop-i-preserved : goal.loop-i-preserved
loop-i-preserved c =
    let parts = c.args.parts.now in
    let i = c.loop-i.i in
    let h : i < length parts = omega arith in
    let p = c.in-Some.ensures in
    rw (c.in_ok-push-in-Some.ensures.items, add-one, map-append, map_more part_cell parts i c.index-parts-i.result h c.index-parts-i.is, map-append) (λ j. c.loop-i.invariant j ++ p j ∷ [])

pub returns : goal.returns
returns c =
    subst (λ (xs : List (Option (Bor Dyn))). beside_one c.args.function c.args.value.now (cells_in_parts xs) ≡ truths_of c.loop-i.truths.items) (take_all c.loop-i.i c.args.parts.now (omega arith)) c.loop-i.invariant
