use Rattle.std.proofs.Common.{◌≡◌, take}
use Rattle.kq_eval_columns.specs.Seen.{beside_one, cells_in_parts, truths_of}
use Rattle.kq_eval_columns.proofs.comparisons.tests_of_parts.Given as goal

abbrev pub invariant-loop-i : goal.invariant-loop-i
invariant-loop-i l = beside_one l.function l.value (cells_in_parts (take l.i l.parts)) ≡ truths_of l.truths.items
