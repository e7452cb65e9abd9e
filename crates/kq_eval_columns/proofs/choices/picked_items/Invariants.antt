use Rattle.std.proofs.Common.{◌≡◌, ◌++◌, drop}
use Rattle.kq_eval_columns.specs.Choices.{picked}
use Rattle.kq_eval_columns.proofs.choices.picked_items.Given as goal

abbrev pub invariant-loop-i : goal.invariant-loop-i
invariant-loop-i g l = picked l.tests l.items ≡ l.found.items ++ picked (drop l.i l.tests) (drop l.i l.items)
