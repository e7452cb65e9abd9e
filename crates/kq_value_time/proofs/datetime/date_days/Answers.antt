use Rattle.std.proofs.Common.{◌≡◌, ℕ, ◌<◌, ◌^◌, to_z, w8, w16, pos, refl, sym, ap, ◌∙◌, arith}
use Rattle.std.specs.Prelude.{codes}
use Rattle.std.proofs.lemmas.Int.{ints}
use Rattle.kq_value_formats.specs.Datetimes.{number_at}
use Rattle.kq_value_time.proofs.DatetimeLemmas.{date_read, date_unread, form_digits}
use Rattle.kq_value_time.proofs.datetime.date_days.Goals as goal

pub number_at-day-requires-clause-digits : goal.number_at-day-requires-clause-digits
number_at-day-requires-clause-digits c = form_digits 8 2 (codes "0000-00-00") c.args.text.now (sym c.if-not-fits.ensures) refl

pub overflow_sub-result : goal.overflow_sub-result
overflow_sub-result c =
    let year : c.in-Ok.date.year ≡ pos c.number_at-year.result = omega (arith, ints, c.in-Ok.ensures.value.0, c.number_at-year.ensures.bound) in
    let month : c.in-Ok.date.month ≡ c.number_at-month.result = omega (arith, ints, c.in-Ok.ensures.value.1, c.number_at-month.ensures.bound) in
    let day : c.in-Ok.date.day ≡ c.number_at-day.result = omega (arith, ints, c.in-Ok.ensures.value.2, c.number_at-day.ensures.bound) in
    (date_read c.args.text.now c.in-Ok.date c.days_since_min.result (sym c.if-not-fits.ensures) (year ∙ ap pos c.number_at-year.ensures.value) (month ∙ c.number_at-month.ensures.value) (day ∙ c.number_at-day.ensures.value) c.days_since_min.ensures.value).0

pub returns-in-Ok-clause-value : goal.returns-in-Ok-clause-value
returns-in-Ok-clause-value c =
    let year : c.in-Ok.date.year ≡ pos c.number_at-year.result = omega (arith, ints, c.in-Ok.ensures.value.0, c.number_at-year.ensures.bound) in
    let month : c.in-Ok.date.month ≡ c.number_at-month.result = omega (arith, ints, c.in-Ok.ensures.value.1, c.number_at-month.ensures.bound) in
    let day : c.in-Ok.date.day ≡ c.number_at-day.result = omega (arith, ints, c.in-Ok.ensures.value.2, c.number_at-day.ensures.bound) in
    (date_read c.args.text.now c.in-Ok.date c.days_since_min.result (sym c.if-not-fits.ensures) (year ∙ ap pos c.number_at-year.ensures.value) (month ∙ c.number_at-month.ensures.value) (day ∙ c.number_at-day.ensures.value) c.days_since_min.ensures.value).1

pub returns-in-Err-clause-value : goal.returns-in-Err-clause-value
returns-in-Err-clause-value c =
    date_unread c.args.text.now _ _ _ (sym c.if-not-fits.ensures)
    (year_is c.number_at-year.result (number_at c.args.text.now 0 4) c.number_at-year.ensures.value c.number_at-year.ensures.bound)
    (month_is c.number_at-month.result (number_at c.args.text.now 5 2) c.number_at-month.ensures.value c.number_at-month.ensures.bound)
    (month_is c.number_at-day.result (number_at c.args.text.now 8 2) c.number_at-day.ensures.value c.number_at-day.ensures.bound)
    (λ date. absurd (cc (c.in-Err.ensures.succeeds.1 date)))
  where
    year_is : (n m : ℕ) → n ≡ m → n < 10 ^ 4 → to_z w16 n ≡ pos m
    year_is n m e h = omega (arith, ints)

    month_is : (n m : ℕ) → n ≡ m → n < 10 ^ 2 → to_z w8 n ≡ pos m
    month_is n m e h = omega (arith, ints)
