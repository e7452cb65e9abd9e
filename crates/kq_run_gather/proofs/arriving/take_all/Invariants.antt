use Rattle.std.proofs.Common.{List, drop, length, map}
use Rattle.kq_plan_expressions.specs.Terms.{term_of}
use Rattle.kq_plan.specs.Fits.{ty_of}
use Rattle.kq_plan.specs.Plans.{aggregating_of}
use Rattle.kq_run_scan.specs.kq_eval_row.Val.{surroundings}
use Rattle.kq_value.specs.declared.schema.Field.{Field}
use Rattle.kq_run_gather.specs.Arriving.{BeginAs}
use Rattle.kq_run_gather.proofs.Regrouped.{Reached}
use Rattle.kq_run_gather.proofs.arriving.take_all.Given as goal

abbrev pub invariant-loop-piece : goal.invariant-loop-piece
invariant-loop-piece l =
    let es = map term_of l.keys in
    let gs = map aggregating_of l.aggregates in
    (cs : List Field) → BeginAs es gs cs l.fn.groups → Reached es gs (map ty_of (drop (length es) cs)) (surroundings l.now l.lets) l.fn.flow.to_come l.flow.to_come l.groups

abbrev pub decreases-loop-piece : goal.decreases-loop-piece
decreases-loop-piece l = l.flow.left
