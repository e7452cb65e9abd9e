use Rattle.std.proofs.Common.{◌≡◌, ◌<◌, ℕ, pos, false, length, get_or}
use Rattle.kq_value.specs.declared.value.Value.TheVariants.{Long, Bool as Truth}
use Rattle.kq_eval_kernels.proofs.beside.tests_beside.Given as goal

-- what has been tested is told by its place
abbrev pub invariant-loop-i : goal.invariant-loop-i
invariant-loop-i g l = (length l.truths.items ≡ length l.numbers) × ((k : ℕ) → k < l.i → g.T.LongTest.test (Long (get_or l.numbers k (pos 0))) (Long l.other) ≡ Truth (get_or l.truths.items k false))
