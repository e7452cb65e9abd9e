-- What comes of rows that are made anew: ranges, different rows, unions, joins and the parts of dynamics.
use Rattle.std.specs.Prelude.{◌≡◌, ℕ, false, nat_lt, List, [], ◌∷◌, length, map, Option, Some, None, slice_get, if◌then◌else◌}
use Rattle.kq_value.specs.Computed.{Computed, Is, Overflow, and_then, each}
use Rattle.kq_plan_expressions.specs.Terms.{Term}
use Rattle.kq_run_join.specs.Joined.{Joined}
use Rattle.kq_plan.specs.declared.work.JoinKind.{JoinKind}
use Rattle.kq_plan.specs.Plans.{Filling, Stepping}
use Rattle.kq_run_reshape.specs.Distinct.{Apart}
use Rattle.kq_run_reshape.specs.MvExpand.{expanded}
use Rattle.kq_run_reshape.specs.Range.{range_of}
use Rattle.kq_run_reshape.specs.Union.{Filled, united}
use Rattle.kq_run_gather.specs.kq_eval_row.Val.{Surroundings, meaning}
use Rattle.kq_value.specs.declared.schema.Field.{Field}
use Rattle.kq_value.specs.declared.ty.Ty.{Ty}
use Rattle.kq_value.specs.declared.value.Value.{Value}
use Rattle.kq_run_plan.specs.declared.outcome.Outcome.{Outcome}
use Rattle.kq_run_plan.specs.declared.outcome.Outcome.TheVariants as outcome
use Rattle.kq_run_plan.specs.Outcomes.{Row, rows_of}

-- ---- ranges

-- as many rows as there may be, or that there are more
abbrev pub few_rows : List Row → Outcome
few_rows rows = if nat_lt 1048576 (length rows) then outcome.Full 1048576 else outcome.Table false rows

-- the rows of a range between two values
abbrev pub range_at : Term → Term → Term → Surroundings → Computed Outcome
range_at from to by s = and_then (meaning from s []) (λ a. and_then (meaning to s []) (λ b. and_then (meaning by s []) (λ c. Is (few_rows (range_of a b c)))))

-- what came of it, or an overflow at this stage
abbrev pub come_in_stage : ℕ → Computed Outcome → Outcome
come_in_stage stage (Is o) = o
come_in_stage stage Overflow = outcome.Overflow stage

-- ---- different rows

-- the different rows of these columns
pub record DiffersTo (columns : List ℕ) (rows : List Row) (o : Outcome) : Type 0 where
  pub out : List Row
  pub apart_so : Apart columns rows out
  pub is : o ≡ outcome.Table false out

-- ---- joins

abbrev pub columns_in : Option Stepping → List Field
columns_in (Some s) = s.columns
columns_in None = []

-- the columns of the step with this number
abbrev pub columns_before : List Stepping → ℕ → List Field
columns_before before i = columns_in (slice_get before i)

-- a join of rows of the columns ls and of rows of the columns rs
pub record JoinsTo (kind : JoinKind) (on : List (ℕ × ℕ)) (ls rs : List Field) (left right : List Row) (o : Outcome) : Type 0 where
  pub out : List Row
  pub joined_so : Joined kind on ls rs left right out
  pub is : o ≡ outcome.Table false out

-- ---- unions

-- the rows of an arm, and for each column of the union the arm's column that fills it
abbrev pub arm_given : List Outcome → Filling → Filled
arm_given done a = (rows_of done a.0, a.1)

abbrev pub arms_together : List Outcome → List Field → List Filling → Outcome
arms_together done columns arms = outcome.Table false (united columns (map (arm_given done) arms))

-- ---- the parts of dynamics

-- a row for each part of the value that a term has over it
abbrev pub expanded_by : Term → Surroundings → ℕ → Option Ty → List Row → Computed (List Row)
expanded_by e s at t rows = and_then (each (meaning e s) rows) (λ vs. Is (expanded at t rows vs))
