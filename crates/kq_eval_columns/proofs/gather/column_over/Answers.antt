use Rattle.std.proofs.Common.{length, arith, refl}
use Rattle.kq_eval_columns.proofs.Rows.{column_of_rows, beyond_of_rows}
use Rattle.kq_eval_columns.proofs.gather.column_over.Goals as goal

pub returns-in_ok-column : goal.returns-in_ok-column
returns-in_ok-column c = column_of_rows c.args.columns.now c.args.places.now c.args.j c.index-columns-j.result _ (omega arith) c.index-columns-j.is c.in_ok-column.ensures

pub returns-else-j-columns : goal.returns-else-j-columns
returns-else-j-columns c = beyond_of_rows c.args.columns.now c.args.places.now c.args.j (length c.args.places.now) _ (omega arith) refl refl
