use Rattle.std.proofs.Common.{◌≡◌, map, take}
use Rattle.kq_store_rows.specs.Chunks.{row_at}
use Rattle.kq_store_rows.proofs.rows.Rows.select.Given as goal

abbrev pub invariant-loop-place : goal.invariant-loop-place
invariant-loop-place l = l.rows ≡ map (row_at l.self) (take l.place-index l.places)
