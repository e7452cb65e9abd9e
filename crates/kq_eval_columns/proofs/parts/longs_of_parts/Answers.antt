use Rattle.std.proofs.Common.{◌≡◌, ◌<◌, List, Option, map, length, [], ◌∷◌, ◌++◌, arith, rules, add-one, ap, sym, subst, ◌∙◌, w64, to_z, of_z}
use Rattle.std.proofs.lemmas.Int.{to_z-of_z}
use Rattle.std.proofs.lemmas.List.{map-append, take_all}
use Rattle.std.specs.Borrow.{Bor}
use Rattle.kq_value.specs.declared.dynamic.Dyn.{Dyn}
use Rattle.kq_value.specs.declared.value.Value.TheVariants.{Long}
use Rattle.kq_eval_row.specs.kq_value_conversions.Converted.{as_long}
use Rattle.kq_eval_columns.specs.Seen.{cells_in_parts, part_cell}
use Rattle.kq_eval_columns.proofs.Rows.{map_more}
use Rattle.kq_eval_columns.proofs.parts.longs_of_parts.Goals as goal

pub loop-i-preserved : goal.loop-i-preserved
loop-i-preserved c =
    let parts = c.args.parts.now in
    let i = c.loop-i.i in
    let h : i < length parts = omega arith in
    let same : to_z w64 (of_z w64 c.in-Some.long) ≡ c.in-Some.long = search (rules, to_z-of_z) in
    let p = c.in-Some.ensures ∙ ap Long (sym same) in
    rw (c.in_ok-push-in-Some.ensures.items, add-one, map-append, map_more part_cell parts i c.index-parts-i.result h c.index-parts-i.is, map-append) (λ j. c.loop-i.invariant j ++ p j ∷ [])

pub returns : goal.returns
returns c =
    subst (λ (xs : List (Option (Bor Dyn))). map as_long (cells_in_parts xs) ≡ map Long c.loop-i.longs.items) (take_all c.loop-i.i c.args.parts.now (omega arith)) c.loop-i.invariant
