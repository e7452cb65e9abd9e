use Rattle.std.proofs.Common.{◌≡◌, ◌+◌, ◌++◌, [], drop}
use Rattle.std.specs.List.{All}
use Rattle.kq_value.specs.Computed.{Is, and_then}
use Rattle.kq_store_rows.specs.Chunks.{HasWidth}
use Rattle.kq_run_groups.specs.Groups.{rows_from}
use Rattle.kq_run_groups.proofs.Finishing.{columns_of}
use Rattle.kq_run_groups.proofs.groups.Groups.rows.Given as goal

abbrev pub invariant-loop-group : goal.invariant-loop-group
invariant-loop-group l = record {
  whole : rows_from l.self.states l.self.keys 0 ≡ and_then (rows_from l.self.states (drop l.group l.self.keys) l.group) (λ rest. Is (l.rows ++ rest));
  wide : All (HasWidth (l.self.width + columns_of l.self.states)) l.rows;
  empty : l.cells.items ≡ [];
}
