use Rattle.std.proofs.Common.{◌≡◌, [], All, length, map, take}
use Rattle.kq_store_rows.specs.Chunks.{HasWidth}
use Rattle.kq_store_rows.specs.Widened.{widened}
use Rattle.kq_policy_cascade.proofs.query.widen_all.Given as goal

abbrev pub invariant-loop-index : goal.invariant-loop-index
invariant-loop-index l = record {
  wide : l.wide ≡ map (widened l.fields) (take l.index l.fn.rows);
  empty : l.row.items ≡ [];
  width : All (HasWidth (length l.fields)) l.wide;
}
