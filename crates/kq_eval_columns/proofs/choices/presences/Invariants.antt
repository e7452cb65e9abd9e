use Rattle.std.proofs.Common.{◌≡◌, take, map}
use Rattle.kq_eval_columns.specs.Choices.{is_present}
use Rattle.kq_store_column_view.specs.Vectors.{cells_of}
use Rattle.kq_eval_columns.proofs.choices.presences.Given as goal

abbrev pub invariant-loop-i : goal.invariant-loop-i
invariant-loop-i l = l.tests.items ≡ map is_present (take l.i (cells_of l.vector))
