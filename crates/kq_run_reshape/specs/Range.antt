-- The rows of a range.
use Rattle.std.specs.Prelude.{◌≡◌, ◌<◌, ◌≤◌, ◌+◌, ◌/◌, ℕ, zero, suc, ℤ, pos, negsuc, ◌+ℤ◌, ◌-ℤ◌, ◌*ℤ◌, int_le, unsigned_abs, List, [], ◌∷◌, length, map, if◌then◌else◌, Result, Ok, Err}
use Rattle.std.specs.List.{range_with_len}
use Rattle.kq_value.specs.declared.ty.Ty.{Ty}
use Rattle.kq_value.specs.declared.ty.Ty.TheVariants as ty
use Rattle.kq_value.specs.declared.value.Value.{Value}
use Rattle.kq_value.specs.declared.value.Value.TheVariants.{Long, Moment, Span}
use Rattle.kq_run_reshape.specs.declared.range.RangeFault.{RangeFault}
use Rattle.kq_run_reshape.specs.declared.range.RangeFault.TheVariants as fault

-- how many numbers there are from a on, each s further, up to b at most; at least b where s is negative, and none where s is 0
abbrev pub how_many : ℤ → ℤ → ℤ → ℕ
how_many a b (pos zero) = 0
how_many a b (pos (suc k)) = if int_le a b then unsigned_abs (b -ℤ a) / suc k + 1 else 0
how_many a b (negsuc k) = if int_le b a then unsigned_abs (b -ℤ a) / suc k + 1 else 0

abbrev pub number_at : ℤ → ℤ → ℕ → ℤ
number_at a s i = a +ℤ (pos i *ℤ s)

-- a number as a value: the ticks of a datetime or of a timespan, or a long
abbrev pub number_as : Ty → ℤ → Value
number_as ty.Moment z = Moment z
number_as ty.Span z = Span z
number_as t z = Long z

-- a row of one cell for each number
abbrev pub row_at_place : Ty → ℤ → ℤ → ℕ → List Value
row_at_place t a s i = number_as t (number_at a s i) ∷ []

abbrev pub numbers_as : Ty → ℤ → ℤ → ℤ → List (List Value)
numbers_as t a b s = map (row_at_place t a s) (range_with_len 0 (how_many a b s))

-- longs by longs, datetimes and timespans by timespans; no row where one of the three is null
abbrev pub range_of : Value → Value → Value → List (List Value)
range_of (Long a) (Long b) (Long s) = numbers_as ty.Long a b s
range_of (Moment a) (Moment b) (Span s) = numbers_as ty.Moment a b s
range_of (Span a) (Span b) (Span s) = numbers_as ty.Span a b s
range_of from to step = []

-- all rows, or that there are over 2^20, unless memory ran out
abbrev pub Ranges : List (List Value) → Result (List (List Value)) RangeFault → Type 0
Ranges all (Ok rows) = (rows ≡ all) × (length all ≤ 1048576)
Ranges all (Err (fault.Full limit)) = (limit ≡ 1048576) × (1048576 < length all)
Ranges all (Err fault.Memory) = Unit {0}
