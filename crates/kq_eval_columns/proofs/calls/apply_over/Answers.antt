use Rattle.std.proofs.Common.{List, length, subst, sym, arith}
use Rattle.kq_value.specs.declared.value.Value.{Value}
use Rattle.kq_value.specs.Computed.{AnswersAs, each}
use Rattle.kq_eval_row.specs.Applied.{applied}
use Rattle.kq_store_column_view.specs.Vectors.{cells_of}
use Rattle.kq_eval_columns.specs.Seen.{fronted}
use Rattle.kq_eval_columns.proofs.Rows.{bare_rows}
use Rattle.kq_eval_columns.proofs.calls.apply_over.Goals as goal

pub returns : goal.returns
returns c =
    subst (λ (rows : List (List Value)). AnswersAs cells_of (each (applied c.args.function c.args.piece.now) (fronted c.args.vectors.now rows)) c.apply_all.result)
    (sym (bare_rows c.args.piece.columns.now c.args.places.now (length c.args.places.now) (omega arith))) c.apply_all.ensures
