use Rattle.std.proofs.Common.{IfOk, subst, sym}
use Rattle.kq_run_gather.specs.Pipelines.{CountsTo, ran_through}
use Rattle.kq_run_gather.specs.kq_eval_pieces.Pieces.{piece_of}
use Rattle.kq_run_gather.specs.kq_run_row_operators.Ran.{Ran}
use Rattle.kq_run_parallel.proofs.Cutting.{ran_in_two}
use Rattle.kq_run_parallel.proofs.counted.CountingTaking.both.Goals as goal

pub returns : goal.returns
returns g c = λ i j k up on p q.
    let a = c.args.self.now in
    let rows = a.rows.now in
    subst (λ (r : Ran). IfOk c.counted_together.result (CountsTo r)) (sym (ran_in_two a.pipeline rows i j k up on))
    (c.counted_together.ensures (ran_through a.pipeline (piece_of rows i j)) (ran_through a.pipeline (piece_of rows j k)) p q)
