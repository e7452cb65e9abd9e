use Rattle.std.proofs.Common.{◌≡◌, map}
use Rattle.std.specs.List.{All, range_with_len}
use Rattle.kq_store_rows.specs.Chunks.{HasWidth}
use Rattle.kq_run_reshape.specs.Range.{row_at_place}
use Rattle.kq_run_reshape.proofs.range.Numbers.first_rows.Given as goal

abbrev pub invariant-loop-i : goal.invariant-loop-i
invariant-loop-i l = (l.rows ≡ map (row_at_place l.ty l.self.from l.self.step) (range_with_len 0 l.i)) × All (HasWidth 1) l.rows
