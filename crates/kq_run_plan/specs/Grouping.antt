-- What a summarize gives of rows, at its stage.
use Rattle.std.specs.Prelude.{◌≡◌, false, ℕ, List}
use Rattle.kq_value.specs.Computed.{Computed}
use Rattle.kq_plan_expressions.specs.Terms.{Term}
use Rattle.kq_run_gather.specs.Grouping.{Summarized}
use Rattle.kq_plan.specs.Plans.{Aggregating}
use Rattle.kq_run_gather.specs.kq_eval_row.Val.{Surroundings}
use Rattle.kq_value.specs.declared.schema.Field.{Field}
use Rattle.kq_run_plan.specs.declared.outcome.Outcome.{Outcome}
use Rattle.kq_run_plan.specs.Operators.{in_stage}
use Rattle.kq_run_plan.specs.Outcomes.{Row}

-- the rows of the groups, or an overflow at this stage
pub record GroupsTo (es : List Term) (gs : List Aggregating) (cs : List Field) (s : Surroundings) (rows : List Row) (stage : ℕ) (o : Outcome) : Type 0 where
  pub came : Computed (List Row)
  pub grouped_so : Summarized es gs cs s rows came
  pub is : o ≡ in_stage stage false came
