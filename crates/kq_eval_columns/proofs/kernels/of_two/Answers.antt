use Rattle.kq_store_column_view.specs.Vectors.{cells_of}
use Rattle.kq_eval_columns.proofs.OneValue.{of_same}
use Rattle.kq_eval_columns.proofs.kernels.of_two.Goals as goal

pub returns-in-Some : goal.returns-in-Some
returns-in-Some c = of_same c.args.function (cells_of c.args.a.now) (cells_of c.args.b.now) _ c.in-Some.value.now c.of_one.result c.in-Some.ensures c.requires c.of_one.ensures
