use Rattle.std.proofs.lemmas.Result.{IfOk-weaker}
use Rattle.kq_run_gather.proofs.Joining.{alike, comes_joined}
use Rattle.kq_run_gather.specs.kq_eval_pieces.Pieces.{piece_of}
use Rattle.kq_run_parallel.proofs.Cutting.{cut_in_two}
use Rattle.kq_run_parallel.proofs.asked.AskedTaking.both.Goals as goal

pub joined_by-requires-clause-alike : goal.joined_by-requires-clause-alike
joined_by-requires-clause-alike g c κs within =
    let rows = c.args.self.now.rows.now in
    let (i, j, k, p, q) = c.requires.came in
    alike c.args.self.now.summarize (piece_of rows i j) (piece_of rows j k) c.args.first c.args.rest p q

pub returns : goal.returns
returns g c = λ i j k up on p q.
    let rows = c.args.self.now.rows.now in
    IfOk-weaker c.joined_by.result _ _ (λ z joins. comes_joined c.args.self.now.summarize (piece_of rows i k) (piece_of rows i j) (piece_of rows j k) c.args.first c.args.rest z (cut_in_two rows i j k up on) p q joins) c.joined_by.ensures
