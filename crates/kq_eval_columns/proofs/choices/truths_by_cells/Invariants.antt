use Rattle.std.proofs.Common.{◌≡◌, take, map}
use Rattle.kq_value_arithmetic.specs.Logic.{is_yes}
use Rattle.kq_store_column_view.specs.Vectors.{cells_of}
use Rattle.kq_eval_columns.proofs.choices.truths_by_cells.Given as goal

abbrev pub invariant-loop-i : goal.invariant-loop-i
invariant-loop-i l = l.truths.items ≡ map is_yes (take l.i (cells_of l.vector))
