use Rattle.std.proofs.Common.{IfOk, subst, sym}
use Rattle.kq_run_gather.proofs.Coming.{are_wide}
use Rattle.kq_run_gather.specs.Pipelines.{CollectsTo, ran_through, width_through}
use Rattle.kq_run_gather.specs.kq_eval_pieces.Pieces.{piece_of}
use Rattle.kq_run_gather.specs.kq_run_row_operators.Ran.{Ran}
use Rattle.kq_run_parallel.proofs.Cutting.{ran_in_two}
use Rattle.kq_run_parallel.proofs.rows.CollectingTaking.both.Goals as goal

pub collected_together-requires : goal.collected_together-requires
collected_together-requires g c =
    let a = c.args.self.now in
    let rows = a.rows.now in
    let w = width_through a.pipeline rows in
    let (i, j, k, p, q) = c.requires.came in
    (w, are_wide w (ran_through a.pipeline (piece_of rows i j)) c.args.first p, are_wide w (ran_through a.pipeline (piece_of rows j k)) c.args.rest q)

pub returns : goal.returns
returns g c = λ i j k up on p q.
    let a = c.args.self.now in
    let rows = a.rows.now in
    let w = width_through a.pipeline rows in
    subst (λ (r : Ran). IfOk c.collected_together.result (CollectsTo w r)) (sym (ran_in_two a.pipeline rows i j k up on))
    (c.collected_together.ensures w (ran_through a.pipeline (piece_of rows i j)) (ran_through a.pipeline (piece_of rows j k)) p q)
