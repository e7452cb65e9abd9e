use Rattle.std.proofs.Common.{◌≡◌, ◌-◌, IfOk, List, arith, subst}
use Rattle.std.proofs.lemmas.List.{take_all}
use Rattle.kq_run_scan.specs.kq_eval_pieces.Operators.{Row}
use Rattle.kq_run_scan.specs.kq_eval_pieces.Pieces.{piece_of}
use Rattle.kq_run_gather.specs.Pipelines.{CountsTo, ran_through}
use Rattle.kq_run_gather.proofs.gatherer.AloneGatherer.count.Goals as goal

pub returns : goal.returns
returns c =
    let rows = c.args.rows.now in
    let all : piece_of rows 0 c.len.result ≡ rows = take_all (c.len.result - 0) rows (omega (arith, c.len.ensures.count)) in
    subst (λ (rs : List Row). IfOk c.count_between.result (CountsTo (ran_through c.args.pipeline.now rs))) all c.count_between.ensures
