-- The printed forms are ASCII, and so texts.
use Rattle.std.proofs.Common.{◌<◌, ℕ, zero, suc, ◌/◌, ◌%◌, ◌^◌, Bool, true, false, List, [], ◌∷◌, ◌++◌, arith, ℤ, pos, unsigned_abs}
use Rattle.std.specs.Prelude.{codes, decimal, ◌==◌, if◌then◌else◌, int_lt}
use Rattle.std.specs.Str.{IsAscii, IsUtf8}
use Rattle.std.proofs.lemmas.Str.{IsAscii-append, IsUtf8-from_ascii}
use Rattle.std.proofs.lemmas.Str.Ascii.{IsAscii-cons, IsAscii-nil}
use Rattle.std.proofs.lemmas.Fmt.{IsAscii-decimal}
use Rattle.kq_value_formats.specs.Numerals.{last_digit, padded}
use Rattle.kq_value_formats.specs.Civil.{Civil, date_of_day}
use Rattle.kq_value_formats.specs.Datetimes.{clock_text, date_text, datetime_text, ticks_per_day, ticks_per_hour, ticks_per_minute, ticks_per_second}
use Rattle.kq_value_formats.specs.Timespans.{timespan_text}

byte_is : (b : ℕ) → b < 128 → IsAscii (b ∷ [])
byte_is b h = IsAscii-cons b [] h IsAscii-nil

last_digit-lt : (n : ℕ) → last_digit n < 128
unfolding last_digit
last_digit-lt n = omega arith

padded_is : (k n : ℕ) → IsAscii (padded k n)
padded_is zero n = IsAscii-nil
padded_is (suc k) n = IsAscii-append (padded k (n / 10)) (last_digit n ∷ []) (padded_is k (n / 10)) (byte_is (last_digit n) (last_digit-lt n))

-- three pieces of digits with a byte between them
three_is : (a b c : List ℕ) (x : ℕ) → x < 128 → IsAscii a → IsAscii b → IsAscii c → IsAscii (a ++ x ∷ [] ++ b ++ x ∷ [] ++ c)
three_is a b c x h p q r =
    let one = IsAscii-append a (x ∷ []) p (byte_is x h) in
    let two = IsAscii-append (a ++ x ∷ []) b one q in
    let three = IsAscii-append (a ++ x ∷ [] ++ b) (x ∷ []) two (byte_is x h) in
    IsAscii-append (a ++ x ∷ [] ++ b ++ x ∷ []) c three r

clock_is : (t : ℕ) → IsAscii (clock_text t)
clock_is t = three_is (padded 2 (t / ticks_per_hour)) (padded 2 (t / ticks_per_minute % 60)) (padded 2 (t / ticks_per_second % 60)) 58 (omega arith) (padded_is 2 (t / ticks_per_hour)) (padded_is 2 (t / ticks_per_minute % 60)) (padded_is 2 (t / ticks_per_second % 60))

date_is : (c : Civil) → IsAscii (date_text c)
date_is c = three_is (padded 4 c.year) (padded 2 c.month) (padded 2 c.day) 45 (omega arith) (padded_is 4 c.year) (padded_is 2 c.month) (padded_is 2 c.day)

datetime_is : (a b c : List ℕ) → IsAscii a → IsAscii b → IsAscii c → IsAscii (a ++ codes "T" ++ b ++ codes "." ++ c ++ codes "Z")
datetime_is a b c p q r =
    let one = IsAscii-append a (codes "T") p (byte_is 84 (omega arith)) in
    let two = IsAscii-append (a ++ codes "T") b one q in
    let three = IsAscii-append (a ++ codes "T" ++ b) (codes ".") two (byte_is 46 (omega arith)) in
    let four = IsAscii-append (a ++ codes "T" ++ b ++ codes ".") c three r in
    IsAscii-append (a ++ codes "T" ++ b ++ codes "." ++ c) (codes "Z") four (byte_is 90 (omega arith))

pub IsUtf8-datetime_text : (z : ℤ) → IsUtf8 (datetime_text z)
unfolding datetime_text
IsUtf8-datetime_text z =
    let ticks = unsigned_abs z in
    IsUtf8-from_ascii _ (datetime_is (date_text (date_of_day (ticks / ticks_per_day))) (clock_text (ticks % ticks_per_day)) (padded 7 (ticks % ticks_per_second)) (date_is (date_of_day (ticks / ticks_per_day))) (clock_is (ticks % ticks_per_day)) (padded_is 7 (ticks % ticks_per_second)))

either_is : (b : Bool) (xs ys : List ℕ) → IsAscii xs → IsAscii ys → IsAscii (if b then xs else ys)
either_is true xs ys p q = p
either_is false xs ys p q = q

timespan_is : (a b c d : List ℕ) → IsAscii a → IsAscii b → IsAscii c → IsAscii d → IsAscii (a ++ b ++ c ++ d)
timespan_is a b c d p q r s =
    let one = IsAscii-append a b p q in
    let two = IsAscii-append (a ++ b) c one r in
    IsAscii-append (a ++ b ++ c) d two s

pub IsUtf8-timespan_text : (z : ℤ) → unsigned_abs z < 2 ^ 64 → IsUtf8 (timespan_text z)
unfolding timespan_text
IsUtf8-timespan_text z h =
    let ticks = unsigned_abs z in
    let days = ticks / ticks_per_day in
    let fraction = ticks % ticks_per_second in
    let few : days < 2 ^ 64 = omega arith in
    IsUtf8-from_ascii _
    (timespan_is (if int_lt z (pos 0) then codes "-" else []) (if days == 0 then [] else decimal days ++ codes ".") (clock_text (ticks % ticks_per_day)) (if fraction == 0 then [] else codes "." ++ padded 7 fraction)
    (either_is (int_lt z (pos 0)) (codes "-") [] (byte_is 45 (omega arith)) IsAscii-nil)
    (either_is (days == 0) [] (decimal days ++ codes ".") IsAscii-nil (IsAscii-append (decimal days) (codes ".") (IsAscii-decimal days few) (byte_is 46 (omega arith))))
    (clock_is (ticks % ticks_per_day))
    (either_is (fraction == 0) [] (codes "." ++ padded 7 fraction) IsAscii-nil (IsAscii-append (codes ".") (padded 7 fraction) (byte_is 46 (omega arith)) (padded_is 7 fraction))))
