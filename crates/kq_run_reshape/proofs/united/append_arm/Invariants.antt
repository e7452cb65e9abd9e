use Rattle.std.proofs.Common.{◌≡◌, ◌++◌, take, map, length}
use Rattle.std.specs.List.{All}
use Rattle.kq_store_rows.specs.Chunks.{HasWidth}
use Rattle.kq_run_reshape.specs.Union.{filled}
use Rattle.kq_run_reshape.proofs.united.append_arm.Given as goal

abbrev pub invariant-loop-i : goal.invariant-loop-i
invariant-loop-i l = (l.union ≡ l.initial.union ++ map (filled l.columns l.cells) (take l.i l.rows)) × All (HasWidth (length l.columns)) l.union
