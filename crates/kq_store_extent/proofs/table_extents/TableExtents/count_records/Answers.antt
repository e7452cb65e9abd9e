use Rattle.std.proofs.Common.{◌≡◌, ◌≤◌, ◌+◌, ℕ, List, length, map, take, ap, sym, ◌∙◌, arith, length-append}
use Rattle.std.specs.Arc.{arc_value}
use Rattle.std.proofs.lemmas.List.{take_all, length-map}
use Rattle.kq_store_extent.specs.Seen.{ExtentView, records_in, held_extents}
use Rattle.kq_store_extent.proofs.Walked.{StandsAt-within, records_in-part, records_in-first, records_in-held}
use Rattle.kq_store_extent.proofs.table_extents.TableExtents.count_records.Goals as goal

pub count_records-count-requires : goal.count_records-count-requires
count_records-count-requires c =
    let es = held_extents c.args.self.now in
    let at = c.loop-at.at in
    let part = map arc_value c.part_from-part.result.now in
    let more = ap length (records_in-part es at part c.loop-at.invariant.within c.part_from-part.ensures.items) in
    let first = records_in-first (at + length part) es in
    let all = ap length (records_in-held c.args.self.now) in
    let sum = length-append (records_in (take at es)) (records_in part) in
    omega (arith, more, first, all, sum, c.requires)

pub overflow_add-count : goal.overflow_add-count
overflow_add-count c =
    let es = held_extents c.args.self.now in
    let at = c.loop-at.at in
    let part = map arc_value c.part_from-part.result.now in
    let more = ap length (records_in-part es at part c.loop-at.invariant.within c.part_from-part.ensures.items) in
    let first = records_in-first (at + length part) es in
    let all = ap length (records_in-held c.args.self.now) in
    let sum = length-append (records_in (take at es)) (records_in part) in
    omega (arith, more, first, all, sum, c.requires, c.count_records-count.ensures, c.loop-at.invariant.counted)

pub overflow_add-at : goal.overflow_add-at
overflow_add-at c =
    let part = map arc_value c.part_from-part.result.now in
    let within = StandsAt-within (held_extents c.args.self.now) c.loop-at.at part c.loop-at.invariant.within c.part_from-part.ensures.items in
    let n = length-map c.part_from-part.result.now arc_value in
    omega (arith, within, n, c.len-len.ensures)

pub loop-at-preserved : goal.loop-at-preserved
loop-at-preserved c =
    let es = held_extents c.args.self.now in
    let at = c.loop-at.at in
    let part = map arc_value c.part_from-part.result.now in
    let within = StandsAt-within es at part c.loop-at.invariant.within c.part_from-part.ensures.items in
    let n = length-map c.part_from-part.result.now arc_value in
    let more : length (records_in (take (at + length c.part_from-part.result.now) es)) ≡ length (records_in (take at es)) + length (records_in part) =
    ap (λ (k : ℕ). length (records_in (take (at + k) es))) (sym n) ∙ ap length (records_in-part es at part c.loop-at.invariant.within c.part_from-part.ensures.items)
    ∙ length-append (records_in (take at es)) (records_in part) in
    record {
      within = omega (arith, within, n);
      counted = omega (arith, more, c.count_records-count.ensures, c.loop-at.invariant.counted);
    }

pub returns : goal.returns
returns c =
    let es = held_extents c.args.self.now in
    let past : length es ≤ c.loop-at.at = omega (arith, c.loop-at-test.false, c.len-len.ensures) in
    c.loop-at.invariant.counted ∙ ap (λ (xs : List ExtentView). length (records_in xs)) (take_all c.loop-at.at es past) ∙ ap length (records_in-held c.args.self.now)
