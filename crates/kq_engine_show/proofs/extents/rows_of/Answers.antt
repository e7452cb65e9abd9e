use Rattle.std.proofs.Common.{◌≤◌, ◌+◌, ◌++◌, ℕ, List, length, map, take, ap, ◌∙◌, arith}
use Rattle.std.specs.Arc.{arc_value}
use Rattle.std.proofs.lemmas.List.{take_all, length-map}
use Rattle.kq_value.specs.declared.value.Value.{Value}
use Rattle.kq_store_extent.specs.Seen.{held_extents}
use Rattle.kq_engine_show.specs.ExtentRows.{held_row}
use Rattle.kq_engine_show.proofs.ExtentLemmas.{held_rows-typed}
use Rattle.kq_engine_show.proofs.Walks.{StandsAt-within, rows-part}
use Rattle.kq_engine_show.proofs.extents.rows_of.Goals as goal

pub add_rows-requires : goal.add_rows-requires
add_rows-requires c = rw c.loop-at.invariant.rows (held_rows-typed (take c.loop-at.at (held_extents c.args.extents.now)))

pub overflow_add-at : goal.overflow_add-at
overflow_add-at c =
    let part = map arc_value c.part_from-part.result.now in
    let within = StandsAt-within (held_extents c.args.extents.now) c.loop-at.at part c.loop-at.invariant.within c.part_from-part.ensures.items in
    let n = length-map c.part_from-part.result.now arc_value in
    omega (arith, within, n, c.len-len.ensures)

pub loop-at-preserved : goal.loop-at-preserved
loop-at-preserved c =
    let es = held_extents c.args.extents.now in
    let at = c.loop-at.at in
    let part = map arc_value c.part_from-part.result.now in
    let within = StandsAt-within es at part c.loop-at.invariant.within c.part_from-part.ensures.items in
    let n = length-map c.part_from-part.result.now arc_value in
    record {
      within = omega (arith, within, n);
      rows = c.in_ok-add_rows.ensures ∙ ap (λ (rs : List (List Value)). rs ++ map held_row part) c.loop-at.invariant.rows
          ∙ rows-part held_row es at part c.loop-at.invariant.within c.part_from-part.ensures.items ∙ ap (λ (k : ℕ). map held_row (take (at + k) es)) n;
    }

pub returns : goal.returns
returns c =
    let es = held_extents c.args.extents.now in
    let past : length es ≤ c.loop-at.at = omega (arith, c.loop-at-test.false, c.len-len.ensures) in
    c.loop-at.invariant.rows ∙ ap (map held_row) (take_all c.loop-at.at es past)
