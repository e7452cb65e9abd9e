use Rattle.std.proofs.Common.{◌≡◌, take, drop, sym, ap, ◌∙◌, arith}
use Rattle.std.specs.Prelude.{◌∷◌}
use Rattle.std.proofs.lemmas.Int.{ints}
use Rattle.std.proofs.lemmas.List.Sums.{prefix_len-le-length}
use Rattle.kq_value_formats.specs.Datetimes.{is_time_byte, time_ticks, zone_ticks}
use Rattle.kq_value_time.proofs.DatetimeLemmas.{after_found}
use Rattle.kq_value_time.proofs.datetime.after_date.Goals as goal

pub split_at-requires : goal.split_at-requires
split_at-requires c = omega (arith, c.time_len.ensures, prefix_len-le-length is_time_byte c.in-Some.text.now)

pub returns-clause-value : goal.returns-clause-value
returns-clause-value c =
    let rest = c.in-Some.text.now in
    let whole : c.args.text.now ≡ c.in-Some.separator.now ∷ rest = cc c.in-Some.ensures.cases.0 in
    let time = ap time_ticks (c.split_at.ensures.front ∙ ap (λ n. take n rest) c.time_len.ensures) in
    let zone = ap zone_ticks (c.split_at.ensures.back ∙ ap (λ n. drop n rest) c.time_len.ensures) in
    after_found c.args.text.now rest c.in-Some.separator.now c.in_ok-ticks.ticks c.in_ok-ahead.ahead _ whole (sym c.if-not-is_separator.ensures) (c.in_ok-ticks.ensures.value ∙ time) (c.in_ok-ahead.ensures.value ∙ zone) (omega (arith, ints, c.in_ok-ticks.ensures.bound, c.in_ok-ahead.ensures.above, c.in_ok-ahead.ensures.below))
