-- Reading what was printed gives the ticks back.
use Rattle.std.proofs.Common.{◌≡◌, true, List, take, Option, Some, ◌≤◌, ◌∙◌, ap, arith, FitsSigned, w64, ℕ, ℤ, pos, negsuc}
use Rattle.std.proofs.lemmas.Bool.Decides.{nat_tests}
use Rattle.std.proofs.lemmas.Int.{ints}
use Rattle.kq_value_formats.specs.Numerals.{is_long}
use Rattle.kq_value_formats.specs.Datetimes.{datetime_of, datetime_text, is_moment}
use Rattle.kq_value_formats.specs.Timespans.{timespan_of, timespan_text}
use Rattle.kq_value_formats.proofs.PrintedDatetimes.{datetime_of-datetime_text}
use Rattle.kq_value_formats.proofs.PrintedTimespans.{timespan_of-timespan_text}

-- what `put_datetime` wrote, as `read_datetime` reads it
pub datetime_read_back : (ticks : ℤ) (out : List ℕ) (read : Option ℤ) → is_moment ticks ≡ true → out ≡ datetime_text ticks → read ≡ datetime_of out → read ≡ Some ticks
datetime_read_back (pos n) out read h written given = given ∙ ap datetime_of written ∙ datetime_of-datetime_text n h
datetime_read_back (negsuc n) out read h written given = absurd cc

-- and what `put_timespan` wrote, of the length that it gave, as `read_timespan` reads it
pub timespan_read_back : (ticks : ℤ) (out : List ℕ) (len : ℕ) (read : Option ℤ) → is_long ticks ≡ true → take len out ≡ timespan_text ticks → read ≡ timespan_of (take len out) → read ≡ Some ticks
timespan_read_back ticks out len read h written given = given ∙ ap timespan_of written ∙ timespan_of-timespan_text ticks h

-- each i64 is a long
pub is_long-fits : (z : ℤ) → FitsSigned w64 z → is_long z ≡ true
is_long-fits (pos n) h = let below : n ≤ 9223372036854775807 = omega (arith, ints) in below_longs n below
  where
    below_longs : (n : ℕ) → n ≤ 9223372036854775807 → is_long (pos n) ≡ true
    below_longs n h = grind (arith, nat_tests)
is_long-fits (negsuc n) h = let below : n ≤ 9223372036854775807 = omega (arith, ints) in above_longs n below
  where
    above_longs : (n : ℕ) → n ≤ 9223372036854775807 → is_long (negsuc n) ≡ true
    above_longs n h = grind (arith, nat_tests)
