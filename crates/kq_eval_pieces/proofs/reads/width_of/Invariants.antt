use Rattle.std.proofs.Common.{◌<◌, ℕ, get_or}
use Rattle.kq_eval_pieces.proofs.reads.width_of.Given as goal

abbrev pub invariant-loop-j : goal.invariant-loop-j
invariant-loop-j l = (k : ℕ) → k < l.j-index → get_or l.reads k 0 < l.width
