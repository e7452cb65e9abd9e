use Rattle.std.proofs.Common.{◌≡◌, ◌+◌, ◌-◌, ◌<◌, length, false, sym, ◌∙◌, arith}
use Rattle.kq_value_strings.specs.Case.{in_case}
use Rattle.kq_value_strings.specs.Found.{counts_at}
use Rattle.kq_value_strings.proofs.Cases.{length-in_case}
use Rattle.kq_value_strings.proofs.Counted.{counts-in_case, counts-none, counts-not, counts-both, found-at, found-end, none_below-more}
use Rattle.kq_value_strings.proofs.Places.{differs-none, nowhere_byte, none_below-then, occurs_at-in}
use Rattle.kq_value_strings.proofs.search.is_found.Goals as goal
use Rattle.kq_value_strings.proofs.search.is_found.Goals.{else-end-part-via-then-end-part+else-counts, else-end-part-via-else-end-part}

pub returns-in_default : goal.returns-in_default
returns-in_default c =
    let by = c.args.by in
    let s = c.args.text.now in
    let t = c.args.part.now in
    let end = length s - length t + 1 in
    let n = length-in_case by s in
    let m = length-in_case by t in
    let fits = c.loop-at-test.true in
    let some = c.requires in
    let nowhere = nowhere_byte by s t c.loop-at.at end c.rarest_offset-offset.result c.rarest_offset-offset.ensures c.in_default.ensures in
    sym (found-end c.args.occurrence (in_case by s) (in_case by t) end (omega arith) (omega arith)
    (none_below-then by s t c.args.occurrence c.loop-at.at end (omega arith) c.loop-at.invariant.1 nowhere))

pub returns-then-counts : goal.returns-then-counts
returns-then-counts c =
    let by = c.args.by in
    let s = c.args.text.now in
    let t = c.args.part.now in
    let place = c.in-Some.place in
    let high = c.in-Some.ensures.0.high in
    let fits = c.loop-at-test.true in
    let all = c.if-end-part.true in
    let occurs = occurs_at-in by s t place (omega arith) (λ k a b. c.first_difference-end.ensures.same k a (omega arith)) in
    let counted = counts-in_case c.args.occurrence by s t place ∙ sym c.if-counts.ensures in
    sym (found-at c.args.occurrence (in_case by s) (in_case by t) place (omega (arith, length-in_case by s)) (counts-both c.args.occurrence (in_case by s) (in_case by t) place occurs counted))

pub is_found_from-requires-clause-passed : goal.is_found_from-requires-clause-passed
is_found_from-requires-clause-passed c =
    let by = c.args.by in
    let s = c.args.text.now in
    let t = c.args.part.now in
    let which = c.args.occurrence in
    let place = c.in-Some.place in
    let first = c.in-Some.ensures.0 in
    let high = first.high in
    let fits = c.loop-at-test.true in
    let here : counts_at which (in_case by s) (in_case by t) place ≡ false = elim c.else-end-part.branch [
      | else-end-part-via-then-end-part+else-counts w ↦ counts-not which (in_case by s) (in_case by t) place (counts-in_case which by s t place ∙ sym w.if-counts.ensures)
      | else-end-part-via-else-end-part w ↦
          let r = c.first_difference-end.result in
          let short : r < length t = omega (arith, c.first_difference-end.ensures.high, w.if-end-part.false) in
          counts-none which (in_case by s) (in_case by t) place (differs-none by s t place r (omega arith) short (c.first_difference-end.ensures.differs short))
    ] in
    let nowhere = nowhere_byte by s t c.loop-at.at place c.rarest_offset-offset.result c.rarest_offset-offset.ensures first.before in
    none_below-more which (in_case by s) (in_case by t) place (none_below-then by s t which c.loop-at.at place (omega arith) c.loop-at.invariant.1 nowhere) here

pub loop-at-preserved : goal.loop-at-preserved
loop-at-preserved c =
    let by = c.args.by in
    let s = c.args.text.now in
    let t = c.args.part.now in
    let which = c.args.occurrence in
    let place = c.in-Some.place in
    let first = c.in-Some.ensures.0 in
    let high = first.high in
    let fits = c.loop-at-test.true in
    let some = c.requires in
    let here : counts_at which (in_case by s) (in_case by t) place ≡ false = elim c.else-end-part.branch [
      | else-end-part-via-then-end-part+else-counts w ↦ counts-not which (in_case by s) (in_case by t) place (counts-in_case which by s t place ∙ sym w.if-counts.ensures)
      | else-end-part-via-else-end-part w ↦
          let r = c.first_difference-end.result in
          let short : r < length t = omega (arith, c.first_difference-end.ensures.high, w.if-end-part.false) in
          counts-none which (in_case by s) (in_case by t) place (differs-none by s t place r (omega arith) short (c.first_difference-end.ensures.differs short))
    ] in
    let nowhere = nowhere_byte by s t c.loop-at.at place c.rarest_offset-offset.result c.rarest_offset-offset.ensures first.before in (
      omega arith,
      none_below-more which (in_case by s) (in_case by t) place (none_below-then by s t which c.loop-at.at place (omega arith) c.loop-at.invariant.1 nowhere) here,
    )

pub returns : goal.returns
returns c =
    let n = length-in_case c.args.by c.args.text.now in
    let m = length-in_case c.args.by c.args.part.now in
    sym (found-end c.args.occurrence (in_case c.args.by c.args.text.now) (in_case c.args.by c.args.part.now) c.loop-at.at (omega (arith, c.requires)) (omega (arith, c.loop-at-test.false)) c.loop-at.invariant.1)
