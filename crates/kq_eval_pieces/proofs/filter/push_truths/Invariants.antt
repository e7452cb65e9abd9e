use Rattle.std.proofs.Common.{◌≡◌, ◌++◌, ◌+◌, drop, map}
use Rattle.kq_value.specs.declared.value.Value.TheVariants.{Bool as Truth}
use Rattle.kq_eval_pieces.specs.Pieces.{places_true}
use Rattle.kq_eval_pieces.proofs.filter.push_truths.Given as goal

abbrev pub invariant-loop-i : goal.invariant-loop-i
invariant-loop-i l = l.fn.places.items ++ places_true l.from (map Truth l.truths) ≡ l.places.items ++ places_true (l.from + l.i) (drop l.i (map Truth l.truths))
