use Rattle.std.proofs.Common.{◌≡◌, drop, map}
use Rattle.kq_store_rows.specs.Chunks.{same_width}
use Rattle.kq_eval_pieces.specs.kq_eval_row.Val.{surroundings}
use Rattle.kq_run_row_operators.specs.Operators.{rowwise_of}
use Rattle.kq_run_row_operators.specs.Pieces.{rows_in}
use Rattle.kq_run_row_operators.specs.Ran.{ran}
use Rattle.kq_run_row_operators.proofs.Laws.{laters}
use Rattle.kq_run_row_operators.proofs.run.pass.Given as goal

abbrev pub invariant-loop-i : goal.invariant-loop-i
invariant-loop-i g l =
    let rows = rows_in g.R.Relation.rows in
    let os = map rowwise_of l.operators in
    let s = surroundings l.now l.lets in
    (ran os s (rows l.fn.piece) ≡ laters l.i (ran (drop l.i os) s (rows l.so_far))) × same_width (rows l.so_far)
