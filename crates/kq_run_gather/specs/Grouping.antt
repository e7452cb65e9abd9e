-- What a summarize gives of rows.
use Rattle.std.specs.Prelude.{◌≡◌, ℕ, suc, ◌+◌, List, [], ◌∷◌, ◌++◌, drop, length, map, take, Result, Ok, Err}
use Rattle.kq_run_aggregates.specs.Aggregates.{aggregate_kind}
use Rattle.kq_run_aggregates.specs.Alone.{each_alone}
use Rattle.kq_value.specs.Computed.{Computed, Is, Overflow, and_then, each}
use Rattle.kq_value.specs.declared.fault.EvalFault.{EvalFault}
use Rattle.kq_value.specs.declared.fault.EvalFault.TheVariants as fault
use Rattle.kq_plan_expressions.specs.Terms.{Term, column}
use Rattle.kq_run_groups.specs.Grouped.{AggregateShape as Aggregated, Grouped}
use Rattle.kq_run_groups.specs.Groups.{AddsRows, Grouping, HasAllGroups, Stands, shape_of}
use Rattle.kq_plan.specs.Fits.{ty_of}
use Rattle.kq_plan.specs.Plans.{Aggregating, rows_counted, summed, least_of, greatest_of, at_greatest, at_least, any_of, set_of}
use Rattle.kq_run_scan.specs.kq_run_reshape.Distinct.{chosen}
use Rattle.kq_run_scan.specs.kq_eval_row.Val.{Surroundings, meaning}
use Rattle.kq_value.specs.declared.schema.Field.{Field}
use Rattle.kq_value.specs.declared.ty.Ty.{Ty}
use Rattle.kq_value.specs.declared.value.Value.{Value}
use Rattle.kq_run_scan.specs.kq_eval_pieces.Operators.{Row, values_at}

-- ---- the arguments of an aggregate: the values of terms over a row, and then cells of the row

abbrev pub terms_taken : Aggregating → List Term
terms_taken rows_counted = []
terms_taken (summed e) = e ∷ []
terms_taken (least_of e) = e ∷ []
terms_taken (greatest_of e) = e ∷ []
terms_taken (at_greatest e is) = e ∷ []
terms_taken (at_least e is) = e ∷ []
terms_taken (any_of is) = []
terms_taken (set_of e n) = e ∷ []

abbrev pub columns_taken : Aggregating → List ℕ
columns_taken (at_greatest e is) = is
columns_taken (at_least e is) = is
columns_taken (any_of is) = is
columns_taken g = []

-- the terms whose values both are
abbrev pub terms_read : Aggregating → List Term
terms_read g = terms_taken g ++ map column (columns_taken g)

abbrev pub arguments_at : Aggregating → Surroundings → Row → Computed Row
arguments_at g s r = and_then (values_at (terms_taken g) s r) (λ vs. Is (vs ++ chosen (columns_taken g) r))

-- the same over each of the rows
abbrev pub arguments_over : Surroundings → List Row → Aggregating → Computed (List Row)
arguments_over s rows g = each (arguments_at g s) rows

-- those of an aggregate that takes one value of each row, and no cells
abbrev pub one_argument : Term → Surroundings → List Row → Computed (List Row)
one_argument e s rows = and_then (each (meaning e s) rows) (λ vs. Is (each_alone vs))

-- it takes the value of this term and no cells
abbrev pub TakesAlone : Term → Aggregating → Type 0
TakesAlone e g = (terms_taken g ≡ e ∷ []) × (columns_taken g ≡ [])

-- ---- the columns of an aggregate

-- how many it has
abbrev pub columns_made : Aggregating → ℕ
columns_made (at_greatest e is) = suc (length is)
columns_made (at_least e is) = suc (length is)
columns_made (any_of is) = length is
columns_made g = 1

-- how many these have together
abbrev pub all_made : List Aggregating → ℕ
all_made [] = 0
all_made (g ∷ gs) = columns_made g + all_made gs

-- the aggregates beside the types of their columns, which stand one after another
abbrev pub under : List Aggregating → List Ty → List Aggregated
under [] ts = []
under (g ∷ gs) ts = record { kind = aggregate_kind g; types = take (columns_made g) ts } ∷ under gs (drop (columns_made g) ts)

-- ---- groups

-- what may come of a value, and of an overflow an overflow
abbrev pub ThenComes : {A B : Type 0} → Computed A → (A → Computed B → Type 0) → Computed B → Type 0
ThenComes (Is x) these c = these x c
ThenComes Overflow these c = c ≡ Overflow

-- the rows of the groups by the values of the keys, under these columns, or an overflow where a key, an argument or a sum overflows
abbrev pub Summarized : List Term → List Aggregating → List Field → Surroundings → List Row → Computed (List Row) → Type 0
Summarized es gs cs s rows =
    ThenComes (each (values_at es s) rows) (λ keys. ThenComes (each (arguments_over s rows) gs) (λ args. Grouped (length es) (under gs (map ty_of (drop (length es) cs))) keys args))

-- ---- pieces of rows

-- the values of a term over each of the rows
abbrev pub column_over : Surroundings → List Row → Term → Computed (List Value)
column_over s rows e = each (meaning e s) rows

-- the keys of rows, and for each aggregate its arguments, or an overflow where one of them overflows
abbrev pub keyed : List Term → List Aggregating → Surroundings → List Row → Computed (List Row × List (List Row))
keyed es gs s rows = and_then (each (values_at es s) rows) (λ keys. and_then (each (arguments_over s rows) gs) (λ args. Is (keys, args)))

-- the rows came to groups, or a key or an argument overflows on one of them
abbrev pub ComeTo : List Term → List Aggregating → Surroundings → List Row → Grouping → Grouping → Result (Unit {0}) EvalFault → Type 0
ComeTo es gs s rows old new (Ok done) = (keys : List Row) × (args : List (List Row)) × (keyed es gs s rows ≡ Is (keys, args)) × AddsRows keys args old new
ComeTo es gs s rows old new (Err fault.Overflow) = keyed es gs s rows ≡ Overflow
ComeTo es gs s rows old new (Err fault.Memory) = Unit {0}

-- no key and no argument overflows on a row, and the groups are those of the rows; the aggregates' columns have these types
pub record GroupsOf (es : List Term) (gs : List Aggregating) (ts : List Ty) (s : Surroundings) (rows : List Row) (g : Grouping) : Type 0 where
  pub keys : List Row
  pub args : List (List Row)
  pub keyed_so : keyed es gs s rows ≡ Is (keys, args)
  pub width_is : g.width ≡ length es
  pub shapes : map shape_of g.states ≡ under gs ts
  pub whole : HasAllGroups g
  pub stands : Stands keys args g
