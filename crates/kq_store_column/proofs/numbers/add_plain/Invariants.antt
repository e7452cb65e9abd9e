use Rattle.std.proofs.Common.{◌≡◌, ◌++◌, false, replicate}
use Rattle.kq_store_column.proofs.numbers.add_plain.Given as goal

abbrev pub invariant-loop-n : goal.invariant-loop-n
invariant-loop-n l = l.nulls.items ≡ l.fn.nulls.items ++ replicate l._n false
