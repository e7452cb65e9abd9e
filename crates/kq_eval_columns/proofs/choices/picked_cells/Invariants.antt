use Rattle.std.proofs.Common.{◌≡◌, ◌++◌, drop}
use Rattle.kq_eval_columns.specs.Choices.{picked}
use Rattle.kq_store_column_view.specs.Vectors.{cells_of}
use Rattle.kq_eval_columns.proofs.choices.picked_cells.Given as goal

abbrev pub invariant-loop-i : goal.invariant-loop-i
invariant-loop-i l = picked l.tests (cells_of l.vector) ≡ l.found.items ++ picked (drop l.i l.tests) (drop l.i (cells_of l.vector))
