use Rattle.kq_value.specs.Computed.{each}
use Rattle.kq_eval_row.specs.Applied.{applied}
use Rattle.kq_store_column_view.specs.Vectors.{cells_of}
use Rattle.kq_eval_columns.specs.Over.{bare}
use Rattle.kq_eval_columns.specs.Seen.{beside, rows_in}
use Rattle.kq_eval_columns.proofs.Arguments.{answers_both, answers_no_second}
use Rattle.kq_eval_columns.proofs.calls.apply_pair.Goals as goal

pub returns-in-Ok : goal.returns-in-Ok
returns-in-Ok c =
    answers_both (applied c.args.function c.args.piece.now) c.args.firsts c.in-Ok.others (bare (rows_in c.args.piece c.args.places.now)) c.args.seconds c.apply_over.result c.in-Ok.is c.apply_over.ensures

pub returns : goal.returns
returns c =
    answers_no_second (λ ys. each (applied c.args.function c.args.piece.now) (beside (cells_of c.args.firsts) (beside ys (bare (rows_in c.args.piece c.args.places.now))))) c.in-Err.fault c.args.seconds c.in-Err.is
