use Rattle.std.proofs.Common.{◌≡◌, ℤ, IfOk, map, rules, subst, w64, to_z, of_z}
use Rattle.std.proofs.lemmas.Int.{to_z-of_z}
use Rattle.kq_run_scan.specs.kq_eval_pieces.Pieces.{piece_of}
use Rattle.kq_run_scan.specs.kq_eval_row.Val.{surroundings}
use Rattle.kq_run_row_operators.specs.Operators.{rowwise_of}
use Rattle.kq_run_row_operators.specs.Ran.{Ran, ran}
use Rattle.kq_run_gather.specs.Pipelines.{CountsTo}
use Rattle.kq_run_gather.proofs.counting.count_between.Goals as goal

pub returns : goal.returns
returns c =
    let p = c.args.pipeline.now in
    let again = to_z w64 (of_z w64 p.moment) in
    let same : again ≡ p.moment = search (rules, to_z-of_z) in
    let part = λ (z : ℤ). ran (map rowwise_of p.operators.now) (surroundings z p.lets.now) (piece_of c.args.rows.now c.args.from c.args.to) in
    let counts = subst (λ (r : Ran). IfOk c.count_all.result (CountsTo r)) c.flow_between-flow.ensures.rows c.count_all.ensures in
    subst (λ (z : ℤ). IfOk c.count_all.result (CountsTo (part z))) same counts
