use Rattle.std.proofs.Common.{◌≡◌, map, take}
use Rattle.kq_store_rows.specs.Chunks.{row_at}
use Rattle.kq_eval_columns.specs.kq_eval_row.Val.{cell_of}
use Rattle.kq_eval_pieces.specs.Numbers.{number_cell}
use Rattle.kq_eval_pieces.proofs.numbers.read_at.Given as goal

abbrev pub invariant-loop-place : goal.invariant-loop-place
invariant-loop-place l = map (number_cell l.kind) l.numbers.items ≡ map (λ p. cell_of (row_at l.rows p) l.j) (take l.place-index l.places)
