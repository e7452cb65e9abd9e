use Rattle.std.proofs.Common.{◌≡◌, drop, map}
use Rattle.std.specs.List.{list_any}
use Rattle.kq_export_binder.specs.Bodies.{is_foreign}
use Rattle.kq_export_binder.proofs.body.some_is_foreign.Given as goal
use Rattle.kq_plan.specs.Plans.{stepping_of}

abbrev pub invariant-loop-step : goal.invariant-loop-step
invariant-loop-step l = list_any (is_foreign l.table) (map stepping_of l.steps) ≡ list_any (is_foreign l.table) (map stepping_of (drop l.step-index l.steps))
