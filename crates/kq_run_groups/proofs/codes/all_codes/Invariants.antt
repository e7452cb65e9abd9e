use Rattle.std.proofs.Common.{ℕ, map, take}
use Rattle.kq_store_column_view.specs.Vectors.{cells_of}
use Rattle.kq_run_groups.specs.Columns.{HaveLength, Tell}
use Rattle.kq_run_groups.proofs.codes.all_codes.Given as goal

abbrev pub invariant-loop-column : goal.invariant-loop-column
invariant-loop-column l = (n : ℕ) → HaveLength n (map cells_of (take l.column-index l.columns)) → Tell n l.codes.items (map cells_of (take l.column-index l.columns))
