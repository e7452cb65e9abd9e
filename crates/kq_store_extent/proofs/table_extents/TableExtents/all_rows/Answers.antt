use Rattle.std.proofs.Common.{◌≤◌, ◌+◌, ◌++◌, ℕ, List, length, map, take, ap, sym, subst, ◌∙◌, arith}
use Rattle.std.specs.Arc.{arc_value}
use Rattle.std.proofs.lemmas.List.{take_all, length-map}
use Rattle.kq_value.specs.declared.value.Value.{Value}
use Rattle.kq_store_shared_lists.specs.Standing.{StandsAt}
use Rattle.kq_store_extent.specs.Seen.{ExtentView, held_extents, row_of}
use Rattle.kq_store_extent.specs.Wide.{wide, wide_held}
use Rattle.kq_store_extent.proofs.Walked.{StandsAt-within, rows_by, rows_by-part, records_in-held, same_width-part}
use Rattle.kq_store_extent.proofs.Wide.{StandsAt-map, held_extents-wide}
use Rattle.kq_store_extent.proofs.table_extents.TableExtents.all_rows.Goals as goal

pub add_rows-requires : goal.add_rows-requires
add_rows-requires c =
    let f = wide c.args.fields.now in
    let held = wide_held c.args.fields.now c.args.self.now in
    let part = map arc_value c.part_from-part.result.now in
    let same = held_extents-wide c.args.fields.now c.args.self.now in
    let n = length-map (held_extents c.args.self.now) f in
    let here : StandsAt (held_extents held) c.loop-at.at (map f part) = subst (λ (es : List ExtentView). StandsAt es c.loop-at.at (map f part)) (sym same) (StandsAt-map f (held_extents c.args.self.now) c.loop-at.at part c.part_from-part.ensures.items) in
    same_width-part held c.loop-at.at (map f part) c.loop-at.rows (let m = ap length same in let within = c.loop-at.invariant.within in omega (arith, m, n, within)) here c.requires
    (c.loop-at.invariant.added ∙ ap (λ (es : List ExtentView). rows_by (take c.loop-at.at es)) (sym same))

pub overflow_add-at : goal.overflow_add-at
overflow_add-at c =
    let part = map arc_value c.part_from-part.result.now in
    let within = StandsAt-within (held_extents c.args.self.now) c.loop-at.at part c.loop-at.invariant.within c.part_from-part.ensures.items in
    let n = length-map c.part_from-part.result.now arc_value in
    omega (arith, within, n, c.len-len.ensures)

pub loop-at-preserved : goal.loop-at-preserved
loop-at-preserved c =
    let f = wide c.args.fields.now in
    let es = map f (held_extents c.args.self.now) in
    let at = c.loop-at.at in
    let part = map arc_value c.part_from-part.result.now in
    let stands = StandsAt-map f (held_extents c.args.self.now) at part c.part_from-part.ensures.items in
    let within = StandsAt-within (held_extents c.args.self.now) at part c.loop-at.invariant.within c.part_from-part.ensures.items in
    let n = length-map c.part_from-part.result.now arc_value in
    let m = length-map part f in
    let all = length-map (held_extents c.args.self.now) f in
    let before = c.loop-at.invariant.within in
    let long : at ≤ length es = omega (arith, before, all) in
    record {
      within = omega (arith, within, n);
      added = c.in_ok-add_rows.ensures ∙ ap (λ (rs : List (List Value)). rs ++ rows_by (map f part)) c.loop-at.invariant.added
          ∙ rows_by-part es at (map f part) long stands ∙ ap (λ (k : ℕ). rows_by (take (at + k) es)) (m ∙ n);
    }

pub returns : goal.returns
returns c =
    let f = wide c.args.fields.now in
    let held = wide_held c.args.fields.now c.args.self.now in
    let es = map f (held_extents c.args.self.now) in
    let all = length-map (held_extents c.args.self.now) f in
    let past : length es ≤ c.loop-at.at = omega (arith, c.loop-at-test.false, c.len-len.ensures, all) in
    c.loop-at.invariant.added ∙ ap rows_by (take_all c.loop-at.at es past) ∙ ap rows_by (sym (held_extents-wide c.args.fields.now c.args.self.now)) ∙ ap (map row_of) (records_in-held held)
