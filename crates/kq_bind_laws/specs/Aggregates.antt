-- What aggregates do with their arguments, and their columns under their default names.
use Rattle.std.specs.Prelude.{◌≡◌, ◌≢◌, ◌⊎◌, ℕ, ℤ, pos, negsuc, true, List, [], ◌∷◌, ◌++◌, Option, Some, None, codes, map, slice_get}
use Rattle.kq_bind_aggregates.specs.Arguments.{Argued}
use Rattle.kq_bind_aggregates.specs.declared.function.AggregateFunction.{AggregateFunction}
use Rattle.kq_bind_aggregates.specs.declared.function.AggregateFunction.TheVariants as aggregate
use Rattle.kq_bind_columns.specs.Items.{field}
use Rattle.kq_bind_expressions.specs.Apply.{as_taken}
use Rattle.kq_plan_expressions.specs.Terms.{Term, Bound, column, literal}
use Rattle.kq_plan.specs.Plans.{Aggregating, rows_counted, summed, least_of, greatest_of, at_greatest, at_least, any_of, set_of}
use Rattle.kq_value.specs.declared.schema.Field.{Field}
use Rattle.kq_value.specs.declared.ty.Ty.{Ty}
use Rattle.kq_value.specs.declared.ty.Ty.TheVariants as ty
use Rattle.kq_value.specs.declared.value.Value.TheVariants as cell
use Rattle.kq_bind_laws.specs.Starred.{Placed, number_of, field_of, IsColumn, StandFor}

-- the name of a column that is made of a term: of a column its name with this before it, and of another term this word
pub record IsNamedAfter (cs : List Field) (front word : List ℕ) (e : Term) (name : List ℕ) : Type 0 where
  pub of_column : (i : ℕ) (c : Field) → e ≡ column i → slice_get cs i ≡ Some c → name ≡ front ++ c.name
  pub of_other : ((i : ℕ) → e ≢ column i) → name ≡ word

-- sums are of longs, ints and timespans, and those of ints are longs
abbrev pub IsSum : Ty → Ty → Type 0
IsSum ty.Long u = u ≡ ty.Long
IsSum ty.Int u = u ≡ ty.Long
IsSum ty.Span u = u ≡ ty.Span
IsSum _ u = ⊥

-- all types but dynamic have a least and a greatest value
abbrev pub IsOrdered : Ty → Ty → Type 0
IsOrdered t u = (u ≡ t) × (t ≢ ty.Dynamic)

-- an int is summed as the long of its value
abbrev pub sum_of : Bound → Aggregating
sum_of x = summed (as_taken true x)

abbrev pub least : Bound → Aggregating
least x = least_of x.0

abbrev pub greatest : Bound → Aggregating
greatest x = greatest_of x.0

-- of one argument comes one column
pub record MakesOne (cs : List Field) (word : List ℕ) (IsOf : Ty → Ty → Type 0) (work : Bound → Aggregating) (given : List Argued) (does : Aggregating) (fs : List Field) : Type 0 where
  pub argument : Bound
  pub alone : given ≡ Some argument ∷ []
  pub name : List ℕ
  pub named : IsNamedAfter cs word word argument.0 name
  pub of_type : Ty
  pub typed : IsOf argument.1 of_type
  pub working : does ≡ work argument
  pub columns : fs ≡ field name of_type ∷ []

-- of a value and one argument or more come the value, which keeps the name of its column, and the columns that the others stand for, under their
-- names
pub record MakesRow (cs keys : List Field) (word : List ℕ) (work : Term → List ℕ → Aggregating) (given : List Argued) (does : Aggregating) (fs : List Field) : Type 0 where
  pub argument : Bound
  pub second : Argued
  pub more : List Argued
  pub several : given ≡ Some argument ∷ second ∷ more
  pub ordered : argument.1 ≢ ty.Dynamic
  pub own : Option ℕ
  pub is_own : IsColumn argument.0 own
  pub beside : List Placed
  pub stand : StandFor cs keys own (second ∷ more) beside
  pub name : List ℕ
  pub named : IsNamedAfter cs [] word argument.0 name
  pub working : does ≡ work argument.0 (map number_of beside)
  pub columns : fs ≡ field name argument.1 ∷ map field_of beside

-- of one argument or more come the columns that they stand for, under their names
pub record MakesAny (cs keys : List Field) (given : List Argued) (does : Aggregating) (fs : List Field) : Type 0 where
  pub first : Argued
  pub more : List Argued
  pub some : given ≡ first ∷ more
  pub picked : List Placed
  pub stand : StandFor cs keys None (first ∷ more) picked
  pub working : does ≡ any_of (map number_of picked)
  pub columns : fs ≡ map field_of picked

-- a number below 0 counts as 0
abbrev pub or_none : ℤ → ℕ
or_none (pos n) = n
or_none (negsuc n) = 0

-- a literal of a whole number
pub record SaysMost (e : Term) (most : ℕ) : Type 0 where
  pub number : ℤ
  pub literally : (e ≡ literal (cell.Long number)) ⊎ (e ≡ literal (cell.Int number))
  pub so : most ≡ or_none number

-- how many a set holds at most
abbrev pub IsMost : List Argued → ℕ → Type 0
IsMost [] most = most ≡ 1048576
IsMost (Some x ∷ []) most = SaysMost x.0 most
IsMost _ most = ⊥

pub record MakesSet (cs : List Field) (given : List Argued) (does : Aggregating) (fs : List Field) : Type 0 where
  pub argument : Bound
  pub more : List Argued
  pub some : given ≡ Some argument ∷ more
  pub most : ℕ
  pub at_most : IsMost more most
  pub name : List ℕ
  pub named : IsNamedAfter cs (codes "set_") (codes "set_") argument.0 name
  pub working : does ≡ set_of argument.0 most
  pub columns : fs ≡ field name ty.Dynamic ∷ []

-- what comes of each aggregate over these columns, where those of the keys are apart
abbrev pub Makes : List Field → List Field → AggregateFunction → List Argued → Aggregating → List Field → Type 0
Makes cs keys aggregate.Count given does fs = (given ≡ []) × (does ≡ rows_counted) × (fs ≡ field (codes "count_") ty.Long ∷ [])
Makes cs keys aggregate.Sum given does fs = MakesOne cs (codes "sum_") IsSum sum_of given does fs
Makes cs keys aggregate.Min given does fs = MakesOne cs (codes "min_") IsOrdered least given does fs
Makes cs keys aggregate.Max given does fs = MakesOne cs (codes "max_") IsOrdered greatest given does fs
Makes cs keys aggregate.ArgMax given does fs = MakesRow cs keys (codes "max_") at_greatest given does fs
Makes cs keys aggregate.ArgMin given does fs = MakesRow cs keys (codes "min_") at_least given does fs
Makes cs keys aggregate.TakeAny given does fs = MakesAny cs keys given does fs
Makes cs keys aggregate.MakeSet given does fs = MakesSet cs given does fs
