use Rattle.std.proofs.Common.{◌≡◌, take}
use Rattle.kq_eval_columns.specs.Seen.{beside_one, truths_of}
use Rattle.kq_eval_columns.proofs.comparisons.tests_of_cells.Given as goal

abbrev pub invariant-loop-cell : goal.invariant-loop-cell
invariant-loop-cell l = beside_one l.function l.value (take l.cell-index l.cells) ≡ truths_of l.truths.items
