use Rattle.std.proofs.Common.{◌≡◌, map, take}
use Rattle.kq_store_frame.specs.Series.{cell_by}
use Rattle.kq_run_sort.specs.Parts.{part_column}
use Rattle.kq_run_sort.proofs.columns.slices_of.Given as goal

abbrev pub invariant-loop-part : goal.invariant-loop-part
invariant-loop-part l = map (λ xs. map (cell_by l.kind) xs.now) l.slices.items ≡ map (part_column l.j) (take l.part-index l.parts)
