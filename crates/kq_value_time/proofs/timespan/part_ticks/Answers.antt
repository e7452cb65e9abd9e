use Rattle.std.proofs.Common.{◌≡◌, ◌<◌, ◌≤◌, ◌+◌, ◌-◌, get_or, length, sym, ◌∙◌, arith}
use Rattle.std.specs.Char.{digit_value}
use Rattle.kq_value_time.proofs.PartLemmas.{digit_of}
use Rattle.kq_value_time.proofs.TimespanLemmas.{numeral_digits, part_found, tenths_are, tenths_bound, tenths_broken, tenths_whole}
use Rattle.kq_value_time.proofs.timespan.part_ticks.Goals as goal

pub overflow_sub-decimals : goal.overflow_sub-decimals
overflow_sub-decimals c =
    let digits = numeral_digits c.args.decimals.now (sym c.if-not-is_numeral.ensures) in
    (digit_of c.args.decimals.now (c.loop-place.place - 1) digits (omega arith)).from

pub returns-then-tenths-ne0-clause-value : goal.returns-then-tenths-ne0-clause-value
returns-then-tenths-ne0-clause-value c =
    let ds = c.args.decimals.now in
    let place = c.loop-place.place - 1 in
    let inside : place < length ds = omega arith in
    let next : c.loop-place.place ≡ place + 1 = omega arith in
    let digit = digit_of ds place (numeral_digits ds (sym c.if-not-is_numeral.ensures)) inside in
    let value : c.from.result ≡ digit_value (get_or ds place 0) = omega (arith, digit.value, digit.from, c.from.ensures) in
    tenths_broken ds place c.loop-place.place c.args.unit _ next inside c.if-tenths-ne0.true (tenths_are ds place c.loop-place.place c.args.unit c.loop-place.part c.from.result next inside value c.loop-place.invariant.part_is)

pub loop-place-preserved : goal.loop-place-preserved
loop-place-preserved c =
    let ds = c.args.decimals.now in
    let place = c.loop-place.place - 1 in
    let inside : place < length ds = omega arith in
    let next : c.loop-place.place ≡ place + 1 = omega arith in
    let digit = digit_of ds place (numeral_digits ds (sym c.if-not-is_numeral.ensures)) inside in
    let value : c.from.result ≡ digit_value (get_or ds place 0) = omega (arith, digit.value, digit.from, c.from.ensures) in
    let nine : c.from.result ≤ 9 = omega (arith, digit.to, c.from.ensures) in
    record {
      place_in = omega arith;
      part_in = tenths_bound c.from.result c.args.unit c.loop-place.part nine c.loop-place.invariant.part_in;
      part_is = tenths_whole ds place c.loop-place.place _ next inside c.if-tenths-ne0.false ∙ tenths_are ds place c.loop-place.place c.args.unit c.loop-place.part c.from.result next inside value c.loop-place.invariant.part_is;
    }

pub returns-clause-value : goal.returns-clause-value
returns-clause-value c =
    let first : c.loop-place.place ≡ 0 = omega arith in
    part_found c.args.decimals.now c.loop-place.place c.args.unit c.loop-place.part (sym c.if-not-is_numeral.ensures) first c.loop-place.invariant.part_is
