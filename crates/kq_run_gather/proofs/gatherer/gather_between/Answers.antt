use Rattle.std.proofs.Common.{◌≡◌, ℤ, IfOk, map, rules, subst, w64, to_z, of_z}
use Rattle.std.proofs.lemmas.Int.{to_z-of_z}
use Rattle.kq_plan_expressions.specs.Terms.{term_of}
use Rattle.kq_run_scan.specs.kq_eval_pieces.Pieces.{piece_of}
use Rattle.kq_run_scan.specs.kq_eval_row.Val.{surroundings}
use Rattle.kq_plan.specs.Plans.{aggregating_of}
use Rattle.kq_run_row_operators.specs.Operators.{rowwise_of}
use Rattle.kq_run_row_operators.specs.Ran.{Ran, ran}
use Rattle.kq_run_gather.specs.Arriving.{ArriveAs}
use Rattle.kq_run_gather.proofs.gatherer.gather_between.Goals as goal

pub returns : goal.returns
returns c =
    let a = c.args.asked.now in
    let again = to_z w64 (of_z w64 a.moment) in
    let same : again ≡ a.moment = search (rules, to_z-of_z) in
    let es = map term_of a.keys.now in
    let gs = map aggregating_of a.aggregates.now in
    let s = λ (z : ℤ). surroundings z a.lets.now in
    let part = λ (z : ℤ). ran (map rowwise_of a.operators.now) (s z) (piece_of c.args.rows.now c.args.from c.args.to) in
    let arrive = subst (λ (r : Ran). IfOk c.gather_groups.result (ArriveAs es gs a.columns.now (s again) r)) c.flow_between-flow.ensures.rows c.gather_groups.ensures in
    subst (λ (z : ℤ). IfOk c.gather_groups.result (ArriveAs es gs a.columns.now (s z) (part z))) same arrive
