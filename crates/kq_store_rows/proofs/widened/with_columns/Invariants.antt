use Rattle.std.proofs.Common.{◌≡◌, ◌++◌}
use Rattle.kq_store_rows.proofs.widened.with_columns.Given as goal

abbrev pub invariant-loop-field : goal.invariant-loop-field
invariant-loop-field l = l.all ≡ l.schema ++ l.yielded
