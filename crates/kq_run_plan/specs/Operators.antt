-- What operators make of lists of rows.
use Rattle.std.specs.Prelude.{◌≡◌, ℕ, pos, Bool, true, false, List, [], ◌∷◌, length, min, take}
use Rattle.kq_value.specs.declared.value.Value.{Value}
use Rattle.kq_value.specs.declared.value.Value.TheVariants.{Long}
use Rattle.kq_value.specs.Same.{NoOftener}
use Rattle.kq_value.specs.Computed.{Computed, Is, Overflow, and_then}
use Rattle.kq_plan_expressions.specs.Terms.{Term}
use Rattle.kq_run_gather.specs.kq_eval_pieces.Operators.{values_at}
use Rattle.kq_run_gather.specs.kq_eval_row.Val.{Surroundings}
use Rattle.kq_run_plan.specs.declared.outcome.Outcome.{Outcome}
use Rattle.kq_run_plan.specs.declared.outcome.Outcome.TheVariants as outcome
use Rattle.kq_run_plan.specs.Outcomes.{Row}
pub use Rattle.kq_run_sort.specs.Answered.{AnswersOne}

-- the one row of these values
abbrev pub single : List Term → Surroundings → Computed (List Row)
single es s = and_then (values_at es s []) (λ vs. Is (vs ∷ []))

-- how many rows there are
abbrev pub tally : List Row → List Row
tally rows = (Long (pos (length rows)) ∷ []) ∷ []

-- rows, or an overflow at this stage
abbrev pub in_stage : ℕ → Bool → Computed (List Row) → Outcome
in_stage stage ordered (Is rows) = outcome.Table ordered rows
in_stage stage ordered Overflow = outcome.Overflow stage

abbrev pub cell_in_stage : ℕ → Computed Value → Outcome
cell_in_stage stage (Is v) = outcome.Cell v
cell_in_stage stage Overflow = outcome.Overflow stage

-- the first rows of an ordered table; of any other any rows, as many, and none oftener
abbrev pub Taken : Bool → List Row → ℕ → Outcome → Type 0
Taken true rows n o = o ≡ outcome.Table true (take n rows)
Taken false rows n o = (few : List Row) × (length few ≡ min n (length rows)) × NoOftener few rows × (o ≡ outcome.Table false few)
