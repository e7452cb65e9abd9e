-- The cells of one column, lent.
use Rattle.std.proofs.Common.{◌≡◌, ◌≤◌, ◌+◌, ℕ, zero, suc, List, [], ◌∷◌, Option, Some, None, length, map, get_or, take, drop, replicate, refl, sym, ap, ◌∙◌, arith, unwrap_or, slice_get}
use Rattle.std.specs.List.{range_with_len}
use Rattle.std.specs.Option.{option_or}
use Rattle.std.proofs.lemmas.List.{take-map, drop-map, length-map}
use Rattle.std.proofs.lemmas.List.FromFn.{fill_by_all, length-range_with_len}
use Rattle.std.proofs.lemmas.Option.{slice_get_past}
use Rattle.kq_value.specs.declared.schema.Field.{Field}
use Rattle.kq_value.specs.declared.value.Value.{Value}
use Rattle.kq_store_column_view.specs.Vectors.{cell_of}
use Rattle.kq_store_rows.specs.Widened.{missing_at, widened}
use Rattle.kq_store_rows.proofs.WidenedLemmas.{widened-cell}
use Rattle.kq_store_extent.specs.Columns.{missing, row_across, rows_across}
use Rattle.kq_store_extent.proofs.Across.{cell_across}

one : (fields : List Field) (columns : List (List Value)) (j i : ℕ) (cells : List Value) → slice_get columns j ≡ Some cells → cell_of (widened fields (row_across columns i)) j ≡ get_or cells i missing
one fields columns j i cells got =
    ap (λ (o : Option Value). unwrap_or o missing) (widened-cell fields (row_across columns i) j ∙ ap (λ (o : Option Value). option_or o (missing_at fields j)) (cell_across columns j i cells got))

each : (fields : List Field) (columns : List (List Value)) (j : ℕ) (cells : List Value) (is : List ℕ) → slice_get columns j ≡ Some cells
    → map (λ r. cell_of r j) (map (widened fields) (map (row_across columns) is)) ≡ map (λ i. get_or cells i missing) is
each fields columns j cells [] got = refl
each fields columns j cells (i ∷ is) got = λ k. one fields columns j i cells got k ∷ each fields columns j cells is got k

-- a column from a place on is what the rows have there
pub lent_across : (fields : List Field) (columns rows : List (List Value)) (count j n from : ℕ) (cells : List Value) → slice_get columns j ≡ Some cells → length cells ≡ count → rows_across columns count ≡ rows
    → take n (drop from cells) ≡ map (λ r. cell_of r j) (take n (drop from (map (widened fields) rows)))
lent_across fields columns rows count j n from cells got long view =
    let whole : map (λ r. cell_of r j) (map (widened fields) rows) ≡ cells =
    ap (λ (rs : List (List Value)). map (λ r. cell_of r j) (map (widened fields) rs)) (sym view) ∙ each fields columns j cells (range_with_len 0 count) got ∙ sym (fill_by_all (λ i. get_or cells i missing) cells count missing long (λ k l. refl)) in
    ap (λ (cs : List Value). take n (drop from cs)) (sym whole) ∙ ap (take n) (drop-map (λ (r : List Value). cell_of r j) from (map (widened fields) rows)) ∙ take-map (λ (r : List Value). cell_of r j) n (drop from (map (widened fields) rows))

no_cell : (fields : List Field) (columns : List (List Value)) (j i : ℕ) → length columns ≤ j → cell_of (widened fields (row_across columns i)) j ≡ unwrap_or (missing_at fields j) missing
no_cell fields columns j i past =
    let none : slice_get (row_across columns i) j ≡ None = slice_get_past (row_across columns i) j (let n = length-map columns (λ (c : List Value). get_or c i missing) in omega (arith, n, past)) in
    ap (λ (o : Option Value). unwrap_or o missing) (widened-cell fields (row_across columns i) j ∙ ap (λ (o : Option Value). option_or o (missing_at fields j)) none)

no_cells : (fields : List Field) (columns : List (List Value)) (j : ℕ) (is : List ℕ) → length columns ≤ j
    → map (λ r. cell_of r j) (map (widened fields) (map (row_across columns) is)) ≡ replicate (length is) (unwrap_or (missing_at fields j) missing)
no_cells fields columns j [] past = refl
no_cells fields columns j (i ∷ is) past = λ k. no_cell fields columns j i past k ∷ no_cells fields columns j is past k

part_of_same : (v : Value) (n from count : ℕ) → from + n ≤ count → take n (drop from (replicate count v)) ≡ replicate n v
part_of_same v zero from count h = refl
part_of_same v (suc n) zero zero h = absurd (omega arith)
part_of_same v (suc n) zero (suc count) h = ap (λ (vs : List Value). v ∷ vs) (part_of_same v n zero count (omega arith))
part_of_same v (suc n) (suc from) zero h = absurd (omega arith)
part_of_same v (suc n) (suc from) (suc count) h = part_of_same v (suc n) from count (omega arith)

-- where the rows lack a column, one cell stands there in all of them
pub missing_across : (fields : List Field) (columns rows : List (List Value)) (count j n from : ℕ) (v : Value) → length columns ≤ j → v ≡ unwrap_or (missing_at fields j) missing → rows_across columns count ≡ rows → from + n ≤ count
    → replicate n v ≡ map (λ r. cell_of r j) (take n (drop from (map (widened fields) rows)))
missing_across fields columns rows count j n from v past is view within =
    let whole : map (λ r. cell_of r j) (map (widened fields) rows) ≡ replicate count v =
    ap (λ (rs : List (List Value)). map (λ r. cell_of r j) (map (widened fields) rs)) (sym view) ∙ no_cells fields columns j (range_with_len 0 count) past ∙ (λ k. replicate (length-range_with_len 0 count k) (sym is k)) in
    sym (part_of_same v n from count within) ∙ ap (λ (cs : List Value). take n (drop from cs)) (sym whole) ∙ ap (take n) (drop-map (λ (r : List Value). cell_of r j) from (map (widened fields) rows))
    ∙ take-map (λ (r : List Value). cell_of r j) n (drop from (map (widened fields) rows))
