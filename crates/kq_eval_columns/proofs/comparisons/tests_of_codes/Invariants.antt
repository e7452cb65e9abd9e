use Rattle.std.proofs.Common.{◌≡◌, map, take}
use Rattle.kq_eval_row.specs.Val.{cell_of}
use Rattle.kq_eval_columns.specs.Seen.{beside_one, truths_of}
use Rattle.kq_eval_columns.proofs.comparisons.tests_of_codes.Given as goal

abbrev pub invariant-loop-code : goal.invariant-loop-code
invariant-loop-code l = beside_one l.function l.value (map (cell_of l.words) (take l.code-index l.codes)) ≡ truths_of l.truths.items
