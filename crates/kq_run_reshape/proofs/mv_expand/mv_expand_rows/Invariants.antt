use Rattle.std.proofs.Common.{◌≡◌, ◌++◌, drop, length}
use Rattle.std.specs.List.{All}
use Rattle.kq_store_rows.specs.Chunks.{HasWidth, row_at}
use Rattle.kq_run_reshape.specs.MvExpand.{expanded, width_with}
use Rattle.kq_run_reshape.proofs.mv_expand.mv_expand_rows.Given as goal

abbrev pub invariant-loop-i : goal.invariant-loop-i
invariant-loop-i l =
    (expanded l.at l.ty l.rows l.values ≡ l.out ++ expanded l.at l.ty (drop l.i l.rows) (drop l.i l.values)) × All (HasWidth (width_with (length (row_at l.rows 0)) l.at)) l.out
