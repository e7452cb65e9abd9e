use Rattle.std.proofs.Common.{◌≡◌, map, take, Some}
use Rattle.std.specs.Prelude.{slice_get}
use Rattle.kq_eval_columns.proofs.comparisons.truths_by_code.Given as goal

abbrev pub invariant-loop-code : goal.invariant-loop-code
invariant-loop-code l = map Some l.found.items ≡ map (slice_get l.truths) (take l.code-index l.codes)
