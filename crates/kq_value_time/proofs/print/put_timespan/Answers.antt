use Rattle.std.proofs.Common.{◌≡◌, ◌<◌, ◌^◌, sym, subst, ap, arith, unsigned_abs, pos, to_z, of_z, w64}
use Rattle.std.specs.Prelude.{int_lt}
use Rattle.std.specs.Str.{IsUtf8}
use Rattle.std.proofs.lemmas.Int.{ints}
use Rattle.kq_value_time.proofs.AsciiLemmas.{IsUtf8-timespan_text}
use Rattle.kq_value_time.proofs.PrintLemmas.{printed_timespan}
use Rattle.kq_value_time.proofs.print.put_timespan.Goals as goal

pub returns-clause-text : goal.returns-clause-text
returns-clause-text c =
    let magnitude : c.unsigned_abs-magnitude.result ≡ unsigned_abs c.args.ticks = omega (arith, ints, c.unsigned_abs-magnitude.ensures.value) in
    let same : to_z w64 (of_z w64 c.args.ticks) ≡ c.args.ticks = omega (arith, ints) in
    printed_timespan c.args.ticks _ c.unsigned_abs-magnitude.result _ _ _ _ (ap (λ z. int_lt z (pos 0)) same) magnitude c.put_sign-at.ensures.text c.put_days-at.ensures.text c.put_clock-at.ensures.text c.put_fraction.ensures.text

pub returns-clause-utf8 : goal.returns-clause-utf8
returns-clause-utf8 c =
    let small : unsigned_abs c.args.ticks < 2 ^ 64 = omega (arith, ints, c.unsigned_abs-magnitude.ensures.value) in
    subst IsUtf8 (sym (returns-clause-text c)) (IsUtf8-timespan_text c.args.ticks small)
