-- Columns with what gives their values, and the step that gives them.
use Rattle.std.specs.Prelude.{◌≡◌, ℕ, suc, List, [], ◌∷◌, ◌++◌, Some, length, map, slice_get}
use Rattle.kq_bind_query.specs.kq_bind_operators.Flows.{Progressing, Flowing}
use Rattle.kq_plan_expressions.specs.Terms.{Term, column}
use Rattle.kq_plan.specs.Plans.{Doing, Stepping, mapped}
use Rattle.kq_value.specs.declared.schema.Field.{Field}

-- what gives the values of a column, and the column
abbrev pub Valued : Type 0
Valued = Term × Field

abbrev pub value_of : Valued → Term
value_of x = x.0

abbrev pub column_of : Valued → Field
column_of x = x.1

abbrev pub values_of : List Valued → List Term
values_of xs = map value_of xs

abbrev pub columns_of : List Valued → List Field
columns_of xs = map column_of xs

-- each column as it is, where they are numbered from i
abbrev pub numbered_from : ℕ → List Field → List Valued
numbered_from i [] = []
numbered_from i (c ∷ cs) = (column i, c) ∷ numbered_from (suc i) cs

-- each of the second list is so of the one in its place of the first
pub record AreEach {A B : Type 0} (P : A → B → Type 0) (xs : List A) (ys : List B) : Type 0 where
  pub all : length ys ≡ length xs
  pub each : (j : ℕ) (x : A) (y : B) → slice_get xs j ≡ Some x → slice_get ys j ≡ Some y → P x y

abbrev pub last_step : Flowing → Doing → List Field → Stepping
last_step v doing cs = record { stage = v.progress.stages; doing = doing; columns = cs }

-- one step stands behind those so far, which does this and has these columns, and its rows go on
pub record HasNext (p : Progressing) (v : Flowing) (doing : Doing) (cs : List Field) : Type 0 where
  pub steps : v.progress.steps ≡ p.steps ++ last_step v doing cs ∷ []
  pub goes_on : v.input ≡ length p.steps

-- the next step makes these columns of the rows that came
abbrev pub IsMapped : Flowing → Flowing → List Valued → Type 0
IsMapped w v out = HasNext w.progress v (mapped w.input (values_of out)) (columns_of out)
