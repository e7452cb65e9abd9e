use Rattle.std.proofs.Common.{◌≡◌, ◌++◌, drop}
use Rattle.kq_bind_columns.specs.Chosen.{columns_at}
use Rattle.kq_bind_columns.proofs.choosing.columns_at.Given as goal

abbrev pub invariant-loop-number : goal.invariant-loop-number
invariant-loop-number l = columns_at l.columns l.numbers ≡ l.fields.items ++ columns_at l.columns (drop l.number-index l.numbers)
