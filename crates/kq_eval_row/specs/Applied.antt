-- What each operator and function gives at its arguments.
use Rattle.std.specs.Prelude.{ℤ, List, [], ◌∷◌}
use Rattle.kq_value.specs.declared.ty.Ty.TheVariants as ty
use Rattle.kq_value.specs.declared.value.Value.{Value}
use Rattle.kq_value.specs.declared.value.Value.TheVariants.{Null, Moment}
use Rattle.kq_value.specs.Computed.{Computed, Is}
use Rattle.kq_plan_functions.specs.declared.function.Function.{Function}
use Rattle.kq_plan_functions.specs.declared.function.Function.TheVariants as f
use Rattle.kq_value_arithmetic.specs.Arithmetic.{plus, minus, times, divided, remainder, bin_of, negated, absolute}
use Rattle.kq_value_arithmetic.specs.Comparing.{equal, unequal, less, at_most, greater, at_least}
use Rattle.kq_value_arithmetic.specs.Logic.{conjunction, disjunction, negation, in_list, between_of}
use Rattle.kq_value_calendar.specs.Calendar.{start_of_day, start_of_week, start_of_month, start_of_year}
use Rattle.kq_value_calendar.specs.Calendar.{day_of_week, year_of, month_of, day_of_month, hour_of}
use Rattle.kq_value_string_functions.specs.kq_value_conversions.Converted.{as_text, as_long, as_int, as_bool, as_moment, as_span, as_dynamic, null_test, not_null_test, empty_test, not_empty_test}
use Rattle.kq_value_string_functions.specs.kq_value_conversions.Parts.{member_of, array_length_of, sorted_of, keys_of}
use Rattle.kq_value_string_functions.specs.Texts.{found, equal_folded, str_len, lowered, uppered, joined, sub_text, sub_text_to, index_in, pieces, replaced}

-- what stands for a call with a number of arguments that the function doesn't take
abbrev pub nothing : Computed Value
nothing = Is (Null ty.Long)

-- KQL reference, now(): the command's moment
abbrev pub at_none : Function → ℤ → Computed Value
at_none f.Now now = Is (Moment now)
at_none function now = nothing

-- parts of datetimes and of dynamics
abbrev pub part_of : Function → Value → Computed Value
part_of f.StartOfDay a = start_of_day a
part_of f.StartOfWeek a = start_of_week a
part_of f.StartOfMonth a = start_of_month a
part_of f.StartOfYear a = start_of_year a
part_of f.DayOfWeek a = Is (day_of_week a)
part_of f.GetYear a = Is (year_of a)
part_of f.MonthOfYear a = Is (month_of a)
part_of f.DayOfMonth a = Is (day_of_month a)
part_of f.HourOfDay a = Is (hour_of a)
part_of f.ArrayLength a = Is (array_length_of a)
part_of f.ArraySortAsc a = Is (sorted_of a)
part_of f.BagKeys a = Is (keys_of a)
part_of function a = nothing

-- KQL reference, now() and ago(): so much later, and so much earlier, than the command's moment
abbrev pub at_one : Function → Value → Value → Computed Value
at_one f.Now moment a = plus moment a
at_one f.Ago moment a = minus moment a
at_one f.Negate moment a = negated a
at_one f.Keep moment a = Is a
at_one f.Abs moment a = absolute a
at_one f.Not moment a = Is (negation a)
at_one f.IsNull moment a = Is (null_test a)
at_one f.IsNotNull moment a = Is (not_null_test a)
at_one f.IsEmpty moment a = Is (empty_test a)
at_one f.IsNotEmpty moment a = Is (not_empty_test a)
at_one f.StrLen moment a = Is (str_len a)
at_one f.ToLower moment a = Is (lowered a)
at_one f.ToUpper moment a = Is (uppered a)
at_one f.ToText moment a = Is (as_text a)
at_one f.ToLong moment a = Is (as_long a)
at_one f.ToInt moment a = Is (as_int a)
at_one f.ToBool moment a = Is (as_bool a)
at_one f.ToMoment moment a = Is (as_moment a)
at_one f.ToSpan moment a = Is (as_span a)
at_one f.ToDynamic moment a = Is (as_dynamic a)
at_one function moment a = part_of function a

abbrev pub at_two : Function → Value → Value → Computed Value
at_two f.Add a b = plus a b
at_two f.Subtract a b = minus a b
at_two f.Multiply a b = times a b
at_two f.Divide a b = divided a b
at_two f.Remainder a b = remainder a b
at_two f.Bin a b = bin_of a b
at_two f.Equal a b = Is (equal a b)
at_two f.Unequal a b = Is (unequal a b)
at_two f.Less a b = Is (less a b)
at_two f.AtMost a b = Is (at_most a b)
at_two f.Greater a b = Is (greater a b)
at_two f.AtLeast a b = Is (at_least a b)
at_two f.EqualFolded a b = Is (equal_folded a b)
at_two f.UnequalFolded a b = Is (negation (equal_folded a b))
at_two f.And a b = Is (conjunction a b)
at_two f.Or a b = Is (disjunction a b)
at_two (f.Find kind) a b = Is (found kind a b)
at_two (f.FindNot kind) a b = Is (negation (found kind a b))
at_two f.Member a b = Is (member_of a b)
at_two f.Substring a b = Is (sub_text a b)
at_two f.IndexOf a b = Is (index_in a b)
at_two f.Split a b = Is (pieces a b)
at_two function a b = nothing

abbrev pub at_three : Function → Value → Value → Value → Computed Value
at_three f.Between a b c = Is (between_of a b c)
at_three f.NotBetween a b c = Is (negation (between_of a b c))
at_three f.Substring a b c = Is (sub_text_to a b c)
at_three f.ReplaceString a b c = Is (replaced a b c)
at_three function a b c = nothing

abbrev pub by_number : Function → ℤ → List Value → Computed Value
by_number function now [] = at_none function now
by_number function now (a ∷ []) = at_one function (Moment now) a
by_number function now (a ∷ b ∷ []) = at_two function a b
by_number function now (a ∷ b ∷ c ∷ []) = at_three function a b c
by_number function now (a ∷ b ∷ c ∷ d ∷ vs) = nothing

-- whether the first value is among the others, by this equality
abbrev pub among : (Value → Value → Value) → List Value → Value
among equality [] = Null ty.Bool
among equality (x ∷ vs) = in_list equality x vs

-- a function at its arguments, where the command's moment is `now`
abbrev pub applied : Function → ℤ → List Value → Computed Value
applied f.StrCat now vs = Is (joined vs)
applied f.In now vs = Is (among equal vs)
applied f.NotIn now vs = Is (negation (among equal vs))
applied f.InFolded now vs = Is (among equal_folded vs)
applied f.NotInFolded now vs = Is (negation (among equal_folded vs))
applied function now vs = by_number function now vs
