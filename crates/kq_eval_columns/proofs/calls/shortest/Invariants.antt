use Rattle.std.proofs.Common.{◌≡◌, drop}
use Rattle.kq_eval_columns.specs.Seen.{shortest}
use Rattle.kq_eval_columns.proofs.calls.shortest.Given as goal

abbrev pub invariant-loop-vector : goal.invariant-loop-vector
invariant-loop-vector l = shortest l.vectors l.count ≡ shortest (drop l.vector-index l.vectors) l.least
