-- What an aggregate makes of its arguments, where its function takes them.
use Rattle.std.specs.Prelude.{ℕ, ℤ, pos, negsuc, true, List, [], ◌∷◌, ◌++◌, Option, Some, None, codes, slice_get}
use Rattle.std.specs.Option.{option_map, option_and_then}
use Rattle.kq_bind_aggregates.specs.Arguments.{Argued, only, several, column_number, all_columns}
use Rattle.kq_bind_aggregates.specs.declared.function.AggregateFunction.{AggregateFunction}
use Rattle.kq_bind_aggregates.specs.declared.function.AggregateFunction.TheVariants as aggregate
use Rattle.kq_bind_aggregates.specs.declared.extremes.Extreme.{Extreme}
use Rattle.kq_bind_aggregates.specs.declared.extremes.Extreme.TheVariants as extreme
use Rattle.kq_bind_columns.specs.Chosen.{columns_at}
use Rattle.kq_bind_columns.specs.Items.{field}
use Rattle.kq_bind_expressions.specs.Apply.{as_taken}
use Rattle.kq_plan_expressions.specs.Terms.{Term, literal, Bound}
use Rattle.kq_plan.specs.Plans.{Aggregating, rows_counted, summed, least_of, greatest_of, at_greatest, at_least, any_of, set_of}
use Rattle.kq_value.specs.declared.schema.Field.{Field}
use Rattle.kq_value.specs.declared.ty.Ty.{Ty}
use Rattle.kq_value.specs.declared.ty.Ty.TheVariants as ty
use Rattle.kq_value.specs.declared.value.Value.TheVariants as cell

-- what an aggregate does, and the columns that it makes, before their names are made free
abbrev pub Aggregated : Type 0
Aggregated = Aggregating × List Field

-- ---- columns

abbrev pub name_of : Field → List ℕ
name_of c = c.name

-- the name of the column that a term is
abbrev pub column_name : List Field → Term → Option (List ℕ)
column_name cs e = option_map name_of (option_and_then (slice_get cs) (column_number e))

abbrev pub behind : List ℕ → Option (List ℕ) → List ℕ
behind base (Some name) = base ++ name
behind base None = base

-- the column's own name, or else this
abbrev pub own_name : List ℕ → Option (List ℕ) → List ℕ
own_name base (Some name) = name
own_name base None = base

abbrev pub one_column : List ℕ → Ty → List Field
one_column name t = field name t ∷ []

-- ---- typing

-- the sum of ints is a long
abbrev pub sum_type : Ty → Option Ty
sum_type ty.Long = Some ty.Long
sum_type ty.Int = Some ty.Long
sum_type ty.Span = Some ty.Span
sum_type _ = None

abbrev pub unless_dynamic : Ty → Option Ty
unless_dynamic ty.Dynamic = None
unless_dynamic t = Some t

-- ---- values

abbrev pub sum_made : List Field → Bound → Option Aggregated
sum_made cs x = option_map (λ t. (summed (as_taken true x), one_column (behind (codes "sum_") (column_name cs x.0)) t)) (sum_type x.1)

abbrev pub base_of : Extreme → List ℕ
base_of extreme.Least = codes "min_"
base_of extreme.Greatest = codes "max_"

abbrev pub value_at : Extreme → Term → Aggregating
value_at extreme.Least = least_of
value_at extreme.Greatest = greatest_of

abbrev pub row_at : Extreme → Term → List ℕ → Aggregating
row_at extreme.Least = at_least
row_at extreme.Greatest = at_greatest

abbrev pub value_made : Extreme → List Field → Bound → Option Aggregated
value_made end cs x = option_map (λ t. (value_at end x.0, one_column (behind (base_of end) (column_name cs x.0)) t)) (unless_dynamic x.1)

-- the value, and the columns beside it
abbrev pub columns_made : Extreme → List Field → Bound → Ty → List ℕ → Aggregated
columns_made end cs x t is = (row_at end x.0 is, field (own_name (base_of end) (column_name cs x.0)) t ∷ columns_at cs is)

abbrev pub row_made : Extreme → List Field → List ℕ → Bound × List Argued → Option Aggregated
row_made end cs starred (x, more) =
    option_and_then (λ t. option_map (columns_made end cs x t) (all_columns starred (column_number x.0) [] more)) (unless_dynamic x.1)

abbrev pub any_made : List Field → List ℕ → Aggregated
any_made cs is = (any_of is, columns_at cs is)

-- ---- sets

-- what a set holds at most, where that isn't said
abbrev pub most_in_set : ℕ
most_in_set = 1048576

-- a number below 0 counts as 0
abbrev pub at_least_none : ℤ → ℕ
at_least_none (pos n) = n
at_least_none (negsuc n) = 0

-- a literal of a whole number
abbrev pub most_said : Term → Option ℕ
most_said (literal (cell.Long n)) = Some (at_least_none n)
most_said (literal (cell.Int n)) = Some (at_least_none n)
most_said _ = None

abbrev pub most_given : List Argued → Option ℕ
most_given [] = Some most_in_set
most_given (Some x ∷ []) = most_said x.0
most_given _ = None

abbrev pub set_made : List Field → Bound → ℕ → Aggregated
set_made cs x most = (set_of x.0 most, one_column (behind (codes "set_") (column_name cs x.0)) ty.Dynamic)

-- ---- functions

-- what a function makes of its arguments; `*` stands for these columns
abbrev pub made : AggregateFunction → List Field → List ℕ → List Argued → Option Aggregated
made aggregate.Count cs starred [] = Some (rows_counted, one_column (codes "count_") ty.Long)
made aggregate.Sum cs starred given = option_and_then (sum_made cs) (only given)
made aggregate.Min cs starred given = option_and_then (value_made extreme.Least cs) (only given)
made aggregate.Max cs starred given = option_and_then (value_made extreme.Greatest cs) (only given)
made aggregate.ArgMax cs starred given = option_and_then (row_made extreme.Greatest cs starred) (several given)
made aggregate.ArgMin cs starred given = option_and_then (row_made extreme.Least cs starred) (several given)
made aggregate.TakeAny cs starred (a ∷ more) = option_map (any_made cs) (all_columns starred None [] (a ∷ more))
made aggregate.MakeSet cs starred (Some x ∷ more) = option_map (set_made cs x) (most_given more)
made _ cs starred given = None
