use Rattle.std.proofs.Common.{refl}
use Rattle.kq_store_column_view.specs.Vectors.{cells_of}
use Rattle.kq_eval_columns.proofs.Rows.{all_cells}
use Rattle.kq_eval_columns.proofs.gather.lent_at.Goals as goal

pub returns-then-are_all : goal.returns-then-are_all
returns-then-are_all c =
    all_cells (cells_of c.args.lent) (cells_of c.args.lent) c.args.places.now c.len.result (c.are_all.ensures c.if-are_all.true) c.len.ensures refl
