use Rattle.std.proofs.Common.{◌≡◌, ◌*◌, subst, to_z, of_z, w64, take, drop, Some, None, pos, ◌-ℤ◌, ◌+ℤ◌, ap, ◌∙◌, arith}
use Rattle.std.specs.Prelude.{if◌then◌else◌}
use Rattle.std.proofs.lemmas.Int.{ints}
use Rattle.kq_value_formats.specs.Datetimes.{after_date, date_days, is_moment}
use Rattle.kq_value_time.proofs.DatetimeLemmas.{drop_to, moment_read, no_date_read, no_time_read, take_to}
use Rattle.kq_value_time.proofs.datetime.read_datetime.Goals as goal

pub returns-in_err-days : goal.returns-in_err-days
returns-in_err-days c =
    let text = c.args.text.now in
    let front : c.split_at.result.0.now ≡ take 10 text = c.split_at.ensures.front ∙ take_to 10 c.min.result _ c.min.ensures ∙ ap (take 10) c.as_bytes-text.ensures.value in
    let back : c.split_at.result.1.now ≡ drop 10 text = c.split_at.ensures.back ∙ drop_to 10 c.min.result _ c.min.ensures ∙ ap (drop 10) c.as_bytes-text.ensures.value in
    c.from_residual.ensures ∙ no_date_read text (c.in_err-days.ensures.value ∙ ap date_days front)

pub returns-in_err-ticks : goal.returns-in_err-ticks
returns-in_err-ticks c =
    let text = c.args.text.now in
    let front : c.split_at.result.0.now ≡ take 10 text = c.split_at.ensures.front ∙ take_to 10 c.min.result _ c.min.ensures ∙ ap (take 10) c.as_bytes-text.ensures.value in
    let back : c.split_at.result.1.now ≡ drop 10 text = c.split_at.ensures.back ∙ drop_to 10 c.min.result _ c.min.ensures ∙ ap (drop 10) c.as_bytes-text.ensures.value in
    c.from_residual-in_err-ticks.ensures ∙ no_time_read text c.in_ok-days.days (c.in_ok-days.ensures.value ∙ ap date_days front) (c.in_err-ticks.ensures.value ∙ ap after_date back)

pub returns : goal.returns
returns c =
    let text = c.args.text.now in
    let front : c.split_at.result.0.now ≡ take 10 text = c.split_at.ensures.front ∙ take_to 10 c.min.result _ c.min.ensures ∙ ap (take 10) c.as_bytes-text.ensures.value in
    let back : c.split_at.result.1.now ≡ drop 10 text = c.split_at.ensures.back ∙ drop_to 10 c.min.result _ c.min.ensures ∙ ap (drop 10) c.as_bytes-text.ensures.value in
    let passed : to_z w64 (of_z w64 c.ticks_from.result) ≡ c.ticks_from.result = omega (arith, ints) in
    let sum : c.ticks_from.result ≡ (pos (c.in_ok-days.days * 864000000000) -ℤ pos (366 * 864000000000)) +ℤ c.in_ok-ticks.ticks = omega (arith, ints, c.ticks_from.ensures) in
    subst (λ x. c.moment.result ≡ (if is_moment x then Some x else None)) passed c.moment.ensures
    ∙ moment_read text c.in_ok-days.days c.in_ok-ticks.ticks c.ticks_from.result (c.in_ok-days.ensures.value ∙ ap date_days front) (c.in_ok-ticks.ensures.value ∙ ap after_date back) sum
