use Rattle.std.proofs.Common.{◌≡◌, ◌++◌, ◌≤◌, drop, length}
use Rattle.kq_eval_columns.specs.Choices.{merged}
use Rattle.kq_eval_columns.proofs.choices.merged_items.Given as goal

abbrev pub invariant-loop-k : goal.invariant-loop-k
invariant-loop-k g l = (merged l.tests l.ys l.zs ≡ l.all.items ++ merged (drop l.k l.tests) (drop l.i l.ys) (drop l.j l.zs)) × (l.i ≤ length l.ys) × (l.j ≤ length l.zs)
