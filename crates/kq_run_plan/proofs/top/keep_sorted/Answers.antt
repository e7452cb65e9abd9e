use Rattle.std.proofs.Common.{◌≡◌, ℤ, List, Err, true, ap, refl, rules, subst, w64, to_z, of_z}
use Rattle.std.proofs.lemmas.Int.{to_z-of_z}
use Rattle.kq_value.specs.Computed.{Is, Overflow}
use Rattle.kq_value.specs.declared.fault.EvalFault.{EvalFault}
use Rattle.kq_run_gather.specs.Pipelines.{ran_through, width_through}
use Rattle.kq_run_gather.specs.kq_eval_row.Val.{surroundings}
use Rattle.kq_run_sort.specs.Answered.{AnswersOne}
use Rattle.kq_run_sort.specs.Orders.{Topped}
use Rattle.kq_plan.specs.Plans.{sorting_of}
use Rattle.kq_run_plan.specs.declared.outcome.Outcome.TheVariants as outcome
use Rattle.kq_run_plan.specs.Outcomes.{Row}
use Rattle.kq_run_plan.proofs.Topped.{ends_sorted}
use Rattle.kq_run_plan.proofs.top.keep_sorted.Goals as goal

pub returns-in-Ok : goal.returns-in-Ok
returns-in-Ok g c =
    let t = c.args.asked.now in
    let p = t.pipeline in
    let rows = c.args.rows.now in
    let same : to_z w64 (of_z w64 p.moment) ≡ p.moment = search (rules, to_z-of_z) in
    ends_sorted t.count (sorting_of t.key.now) (surroundings p.moment p.lets.now) c.args.stage (width_through p rows) (ran_through p rows) c.in_ok-all.field-0 c.in-Rows.all (Is c.in-Ok.first) _ c.in_ok-all.ensures c.in-Rows.is
    (rw same at c.in-Ok.ensures) (ap (λ (rs : List Row). outcome.Table true rs) c.own.ensures)

pub returns-in-Err-Overflow : goal.returns-in-Err-Overflow
returns-in-Err-Overflow g c =
    let t = c.args.asked.now in
    let p = t.pipeline in
    let rows = c.args.rows.now in
    let all = c.in-Rows.all in
    let same : to_z w64 (of_z w64 p.moment) ≡ p.moment = search (rules, to_z-of_z) in
    let lost = subst (λ (f : EvalFault). AnswersOne {A = List Row} (Topped t.count (sorting_of t.key.now) (surroundings (to_z w64 (of_z w64 p.moment)) p.lets.now) all) (Err f)) c.in-Err-Overflow.field-0-is c.in-Err-Overflow.ensures in
    let over = subst (λ (z : ℤ). Topped t.count (sorting_of t.key.now) (surroundings z p.lets.now) all Overflow) same lost in
    ends_sorted t.count (sorting_of t.key.now) (surroundings p.moment p.lets.now) c.args.stage (width_through p rows) (ran_through p rows) c.in_ok-all.field-0 all Overflow _ c.in_ok-all.ensures c.in-Rows.is over refl
