use Rattle.std.proofs.Common.{◌≡◌, ◌++◌, length, map, take}
use Rattle.std.specs.List.{All}
use Rattle.kq_store_rows.specs.Chunks.{HasWidth}
use Rattle.kq_value.specs.declared.value.Value.{Value}
use Rattle.kq_run_reshape.specs.MvExpand.{part_as, width_with, with_cell}
use Rattle.kq_run_reshape.proofs.mv_expand.put_parts.Given as goal

abbrev pub invariant-loop-part : goal.invariant-loop-part
invariant-loop-part l =
    (l.out ≡ l.initial.out ++ map (λ (p : Value). with_cell l.row l.at (part_as l.ty p)) (take l.part-index l.parts)) × All (HasWidth (width_with (length l.row) l.at)) l.out
