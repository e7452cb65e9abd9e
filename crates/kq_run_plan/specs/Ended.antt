-- What becomes of rows that come through row operators.
use Rattle.std.specs.Prelude.{◌≡◌, ℕ, List}
use Rattle.kq_plan_expressions.specs.Terms.{Term}
use Rattle.kq_plan.specs.Plans.{Aggregating}
use Rattle.kq_run_gather.specs.kq_eval_row.Val.{Surroundings}
use Rattle.kq_run_gather.specs.kq_run_row_operators.Ran.{Ran, came, failed}
use Rattle.kq_value.specs.declared.schema.Field.{Field}
use Rattle.kq_run_plan.specs.Grouping.{GroupsTo}
use Rattle.kq_run_plan.specs.Outcomes.{Row}
use Rattle.kq_run_plan.specs.declared.outcome.Outcome.{Outcome}
use Rattle.kq_run_plan.specs.declared.sinks.Ended.{Ended}
use Rattle.kq_run_plan.specs.declared.sinks.Ended.TheVariants as ended

-- an outcome of the rows that came, or the number of the operator that failed
abbrev pub EndsAs : (List Row → Outcome → Type 0) → Ran → Ended → Type 0
EndsAs these (came rows) (ended.Gave o) = these rows o
EndsAs these (came rows) (ended.Failed n) = ⊥
EndsAs these (failed n) (ended.Gave o) = ⊥
EndsAs these (failed n) (ended.Failed m) = m ≡ n

-- a row for each group of the rows that came, or an overflow at this stage, or the number of the operator that failed
abbrev pub EndsInGroups : List Term → List Aggregating → List Field → ℕ → Surroundings → Ran → Ended → Type 0
EndsInGroups es gs cs stage s = EndsAs (λ rows. GroupsTo es gs cs s rows stage)
