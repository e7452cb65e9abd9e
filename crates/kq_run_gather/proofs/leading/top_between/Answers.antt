use Rattle.std.proofs.Common.{◌≡◌, ℕ, ℤ, IfOk, map, rules, subst, w64, to_z, of_z}
use Rattle.std.proofs.lemmas.Int.{to_z-of_z}
use Rattle.kq_run_scan.specs.kq_eval_pieces.Pieces.{piece_of}
use Rattle.kq_run_scan.specs.kq_eval_row.Val.{surroundings}
use Rattle.kq_plan.specs.Plans.{sorting_of}
use Rattle.kq_run_row_operators.specs.Operators.{rowwise_of}
use Rattle.kq_run_row_operators.specs.Ran.{Ran, ran}
use Rattle.kq_run_gather.specs.Leading.{LeadsTo}
use Rattle.kq_run_gather.specs.Pipelines.{width_through}
use Rattle.kq_run_gather.proofs.leading.top_between.Goals as goal

pub returns : goal.returns
returns c =
    let t = c.args.asked.now in
    let p = t.pipeline in
    let k = sorting_of t.key.now in
    let again = to_z w64 (of_z w64 p.moment) in
    let same : again ≡ p.moment = search (rules, to_z-of_z) in
    let s = λ (z : ℤ). surroundings z p.lets.now in
    let part = λ (z : ℤ). ran (map rowwise_of p.operators.now) (s z) (piece_of c.args.rows.now c.args.from c.args.to) in
    let width = width_through p c.args.rows.now in
    let wide = subst (λ (w : ℕ). IfOk c.top_all.result (LeadsTo w t.count k (s again) c.flow_between-flow.result.to_come)) c.flow_between-flow.ensures.width c.top_all.ensures in
    let leads = subst (λ (r : Ran). IfOk c.top_all.result (LeadsTo width t.count k (s again) r)) c.flow_between-flow.ensures.rows wide in
    subst (λ (z : ℤ). IfOk c.top_all.result (LeadsTo width t.count k (s z) (part z))) same leads
