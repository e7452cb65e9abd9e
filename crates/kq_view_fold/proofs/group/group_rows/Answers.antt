use Rattle.std.proofs.Common.{List, ap, ◌∙◌}
use Rattle.kq_run_gather.specs.Steps.{stage_at}
use Rattle.kq_plan.specs.Plans.{Stepping, planned_of}
use Rattle.kq_view_fold.proofs.Folding.{arrived_failure, arrived_groups, arrived_overflow, arrived_within}
use Rattle.kq_view_fold.proofs.group.group_rows.Goals as goal

pub returns-in-Ok-Groups : goal.returns-in-Ok-Groups
returns-in-Ok-Groups g c = arrived_groups (planned_of c.args.body.now) c.args.rows.now c.in-Ok-Groups.field-0 c.in-Ok-Groups.groups c.in-Ok-Groups.ensures c.in-Ok-Groups.field-0-is

pub returns-in-Ok-Overflow : goal.returns-in-Ok-Overflow
returns-in-Ok-Overflow g c =
    arrived_overflow (planned_of c.args.body.now) c.args.rows.now c.in-Ok-Overflow.field-0 c.last_step.result.now.stage c.in-Ok-Overflow.ensures c.in-Ok-Overflow.field-0-is (ap (λ (s : Stepping). s.stage) c.last_step.ensures)

pub stage_in-requires : goal.stage_in-requires
stage_in-requires g c =
    arrived_within (planned_of c.args.body.now) c.args.rows.now c.in-Ok-Failed.field-0 c.in-Ok-Failed.n c.behind_source.result.now c.behind_source.ensures c.in-Ok-Failed.ensures c.in-Ok-Failed.field-0-is

pub returns-in-Ok-Failed : goal.returns-in-Ok-Failed
returns-in-Ok-Failed g c =
    arrived_failure (planned_of c.args.body.now) c.args.rows.now c.in-Ok-Failed.field-0 c.in-Ok-Failed.n c.stage_in.result c.in-Ok-Failed.ensures c.in-Ok-Failed.field-0-is
    (c.stage_in.ensures ∙ ap (λ (ss : List Stepping). stage_at ss c.in-Ok-Failed.n) c.behind_source.ensures)
