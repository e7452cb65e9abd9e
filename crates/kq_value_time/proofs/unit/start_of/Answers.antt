use Rattle.std.proofs.Common.{◌≡◌, ◌∙◌, arith, to_z, of_z, w64}
use Rattle.std.proofs.lemmas.Int.{ints}
use Rattle.kq_value_formats.specs.Ticks.{day_of}
use Rattle.kq_value_time.proofs.DateLemmas.{month_start, month_starts_in, year_start, year_starts_in}
use Rattle.kq_value_time.proofs.unit.start_of.Goals as goal

pub overflow_sub-day : goal.overflow_sub-day
overflow_sub-day c = omega (arith, year_starts_in c.date_of.result c.day_of-day.result c.date_of.ensures, c.day_of_year.ensures.value)

pub overflow_sub-day-in-Month : goal.overflow_sub-day-in-Month
overflow_sub-day-in-Month c = omega (arith, month_starts_in c.date_of-in-Month.result c.day_of-day.result c.date_of-in-Month.ensures)

pub returns-in-Year : goal.returns-in-Year
returns-in-Year c =
    let same : to_z w64 (of_z w64 c.first_tick.result) ≡ c.first_tick.result = omega (arith, ints) in
    let day : c.day_of-day.result ≡ day_of c.args.ticks = omega (arith, ints, c.day_of-day.ensures.value) in
    same ∙ year_start c.args.unit c.args.ticks c.first_tick.result c.date_of.result c.day_of-day.result c.from.result c.in-Year.is day c.date_of.ensures (c.from.ensures ∙ c.day_of_year.ensures.value) c.first_tick.ensures

pub returns-in-Month : goal.returns-in-Month
returns-in-Month c =
    let same : to_z w64 (of_z w64 c.first_tick-in-Month.result) ≡ c.first_tick-in-Month.result = omega (arith, ints) in
    let day : c.day_of-day.result ≡ day_of c.args.ticks = omega (arith, ints, c.day_of-day.ensures.value) in
    same ∙ month_start c.args.unit c.args.ticks c.first_tick-in-Month.result c.date_of-in-Month.result c.day_of-day.result c.from-in-Month.result c.in-Month.is day c.date_of-in-Month.ensures c.from-in-Month.ensures c.first_tick-in-Month.ensures
