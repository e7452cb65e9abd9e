use Rattle.kq_run_gather.proofs.Led.{have_width, tops_joined}
use Rattle.kq_run_gather.specs.Pipelines.{ran_through, width_through}
use Rattle.kq_run_gather.specs.kq_eval_pieces.Pieces.{piece_of}
use Rattle.kq_run_gather.specs.kq_eval_row.Val.{surroundings}
use Rattle.kq_plan.specs.Plans.{sorting_of}
use Rattle.kq_run_parallel.proofs.Cutting.{cut_in_two}
use Rattle.kq_run_parallel.proofs.topped.ToppingTaking.both.Goals as goal

pub topped_together-requires : goal.topped_together-requires
topped_together-requires g c =
    let t = c.args.self.now.asked in
    let rows = c.args.self.now.rows.now in
    let w = width_through t.pipeline rows in
    let k = sorting_of t.key.now in
    let s = surroundings t.pipeline.moment t.pipeline.lets.now in
    let (from, middle, to, p, q) = c.requires.came in
    (w, have_width t.count k s w (ran_through t.pipeline (piece_of rows from middle)) c.args.first p, have_width t.count k s w (ran_through t.pipeline (piece_of rows middle to)) c.args.rest q)

pub returns : goal.returns
returns g c = λ i j k up on p q.
    let t = c.args.self.now.asked in
    let rows = c.args.self.now.rows.now in
    tops_joined t rows (piece_of rows i k) (piece_of rows i j) (piece_of rows j k) c.args.first c.args.rest c.topped_together.result (cut_in_two rows i j k up on) p q c.topped_together.ensures
