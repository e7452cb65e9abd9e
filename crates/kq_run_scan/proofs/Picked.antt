-- Cells that are picked of a column are those of the rows at their places.
use Rattle.std.proofs.Common.{◌≡◌, ◌-◌, ℕ, List, [], ◌∷◌, length, map, take, drop, refl, ap, ◌∙◌, arith}
use Rattle.std.proofs.lemmas.List.{take_all}
use Rattle.kq_value.specs.declared.value.Value.{Value}
use Rattle.kq_store_rows.specs.Chunks.{row_at}
use Rattle.kq_run_row_operators.specs.kq_eval_row.Val.{cell_of}
use Rattle.kq_run_row_operators.proofs.kq_eval_pieces.Standing.{cell_in_column}

pub picked_rows : (rows : List (List Value)) (j n : ℕ) (places : List ℕ) (cells : List Value) → n ≡ length rows → cells ≡ map (λ r. cell_of r j) (take (n - 0) (drop 0 rows))
    → map (cell_of cells) places ≡ map (λ p. cell_of (row_at rows p) j) places
picked_rows rows j n places cells is are = each places
  where
    whole : cells ≡ map (λ r. cell_of r j) rows
    whole = are ∙ ap (map (λ r. cell_of r j)) (take_all (n - 0) rows (omega arith))

    each : (ps : List ℕ) → map (cell_of cells) ps ≡ map (λ p. cell_of (row_at rows p) j) ps
    each [] = refl
    each (p ∷ ps) = λ t. (ap (λ cs. cell_of cs p) whole ∙ cell_in_column rows p j) t ∷ each ps t
