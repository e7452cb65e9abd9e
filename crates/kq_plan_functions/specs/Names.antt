-- The names of functions.
use Rattle.std.specs.Prelude.{ℕ, List, [], ◌∷◌, Option, Some, None, codes, nat_eq, if◌then◌else◌}
use Rattle.std.specs.Cmp.Lexicographic.{pointwise}
use Rattle.kq_plan_functions.specs.declared.function.Function.{Function}
use Rattle.kq_plan_functions.specs.declared.function.Function.TheVariants as f

abbrev pub function_names : List (List ℕ × Function)
function_names =
    (codes "now", f.Now) ∷
    (codes "ago", f.Ago) ∷
    (codes "bin", f.Bin) ∷
    (codes "floor", f.Bin) ∷
    (codes "abs", f.Abs) ∷
    (codes "iff", f.Iff) ∷
    (codes "iif", f.Iff) ∷
    (codes "case", f.Case) ∷
    (codes "coalesce", f.Coalesce) ∷
    (codes "not", f.Not) ∷
    (codes "isnull", f.IsNull) ∷
    (codes "isnotnull", f.IsNotNull) ∷
    (codes "isempty", f.IsEmpty) ∷
    (codes "isnotempty", f.IsNotEmpty) ∷
    (codes "strlen", f.StrLen) ∷
    (codes "tolower", f.ToLower) ∷
    (codes "toupper", f.ToUpper) ∷
    (codes "strcat", f.StrCat) ∷
    (codes "substring", f.Substring) ∷
    (codes "indexof", f.IndexOf) ∷
    (codes "split", f.Split) ∷
    (codes "replace_string", f.ReplaceString) ∷
    (codes "tostring", f.ToText) ∷
    (codes "tolong", f.ToLong) ∷
    (codes "toint", f.ToInt) ∷
    (codes "tobool", f.ToBool) ∷
    (codes "todatetime", f.ToMoment) ∷
    (codes "totimespan", f.ToSpan) ∷
    (codes "todynamic", f.ToDynamic) ∷
    (codes "parse_json", f.ToDynamic) ∷
    (codes "startofday", f.StartOfDay) ∷
    (codes "startofweek", f.StartOfWeek) ∷
    (codes "startofmonth", f.StartOfMonth) ∷
    (codes "startofyear", f.StartOfYear) ∷
    (codes "dayofweek", f.DayOfWeek) ∷
    (codes "getyear", f.GetYear) ∷
    (codes "monthofyear", f.MonthOfYear) ∷
    (codes "dayofmonth", f.DayOfMonth) ∷
    (codes "hourofday", f.HourOfDay) ∷
    (codes "array_length", f.ArrayLength) ∷
    (codes "array_sort_asc", f.ArraySortAsc) ∷
    (codes "bag_keys", f.BagKeys) ∷ []

-- the function of the first pair with this name
abbrev pub first_named : List (List ℕ × Function) → List ℕ → Option Function
first_named [] name = None
first_named (p ∷ ps) name = if pointwise nat_eq p.0 name then Some p.1 else first_named ps name

abbrev pub function_named : List ℕ → Option Function
function_named = first_named function_names
