-- The columns of a piece stand for its rows.
use Rattle.std.proofs.Common.{◌≡◌, ◌<◌, ◌≤◌, ◌+◌, ◌-◌, ℕ, zero, suc, List, [], ◌∷◌, ◌++◌, map, length, inl, inr, get_or, take, drop, refl, sym, ap, ◌∙◌, arith, append-nil, append_assoc}
use Rattle.std.proofs.Math.Nat.{eq-or-lt_of_le}
use Rattle.std.proofs.Math.ListN.{get_or-append}
use Rattle.std.proofs.Math.Seq.{get_or-append_seam}
use Rattle.std.proofs.lemmas.List.{map-append, length-map, length-take-le, length-drop, take_all}
use Rattle.std.proofs.lemmas.List.Elements.{All-nil, All-cons, All-head, All-tail, All-get_or, All-from_get_or}
use Rattle.std.specs.List.{All, concat, range_with_len}
use Rattle.kq_value.specs.declared.value.Value.{Value}
use Rattle.kq_value.specs.Computed.{Computed, Is, and_then, each}
use Rattle.kq_store_column_view.specs.declared.vector.Vector.{Vector}
use Rattle.kq_eval_columns.specs.Vectors.{row_at, rows_at}
use Rattle.kq_store_column_view.specs.Vectors.{cells_of}
use Rattle.kq_plan_expressions.specs.declared.expr.Expr.{Expr}
use Rattle.kq_plan_expressions.specs.Terms.{term_of}
use Rattle.kq_store_rows.specs.Chunks.{row_at as row_of}
use Rattle.kq_eval_columns.proofs.kq_eval_row.Meant.{val_is_meaning}
use Rattle.kq_eval_columns.specs.kq_eval_row.Val.{Meaning, Surroundings, val, meaning, cell_of}
use Rattle.kq_eval_pieces.specs.Pieces.{Hold, column_of, columns_read, piece_of}
use Rattle.kq_eval_pieces.proofs.Reading.{Same, reads_alone}

pub cell_at_columns : (columns : List Vector) (i j : ℕ) → cell_of (row_at columns i) j ≡ cell_of (get_or (map cells_of columns) j []) i
cell_at_columns [] zero zero = refl
cell_at_columns [] zero (suc j) = refl
cell_at_columns [] (suc i) zero = refl
cell_at_columns [] (suc i) (suc j) = refl
cell_at_columns (c ∷ columns) i zero = refl
cell_at_columns (c ∷ columns) i (suc j) = cell_at_columns columns i j

pub cell_in_column : (rows : List (List Value)) (i j : ℕ) → cell_of (column_of j rows) i ≡ cell_of (get_or rows i []) j
cell_in_column [] zero zero = refl
cell_in_column [] zero (suc j) = refl
cell_in_column [] (suc i) zero = refl
cell_in_column [] (suc i) (suc j) = refl
cell_in_column (r ∷ rows) zero j = refl
cell_in_column (r ∷ rows) (suc i) j = cell_in_column rows i j

same_cells : (columns : List Vector) (rows : List (List Value)) (i : ℕ) (js : List ℕ) → Hold columns rows js → Same (row_at columns i) (get_or rows i []) js
same_cells columns rows i [] h = All-nil (λ j. cell_of (row_at columns i) j ≡ cell_of (get_or rows i []) j)
same_cells columns rows i (j ∷ js) h =
    let P = λ (j : ℕ). get_or (map cells_of columns) j [] ≡ column_of j rows in
    All-cons (λ j. cell_of (row_at columns i) j ≡ cell_of (get_or rows i []) j) j js
    (cell_at_columns columns i j ∙ ap (λ cs. cell_of cs i) (All-head P j js h) ∙ cell_in_column rows i j)
    (same_cells columns rows i js (All-tail P j js h))

each_same : {B : Type 0} (f : List Value → Computed B) (columns : List Vector) (rows : List (List Value)) (k : ℕ)
    → ((i n : ℕ) → n ≡ k + i → f (row_at columns n) ≡ f (get_or rows i [])) → each f (rows_at columns (range_with_len k (length rows))) ≡ each f rows
each_same f columns [] k h = refl
each_same f columns (r ∷ rows) k h =
    λ t. and_then (h 0 k (omega arith) t) (λ y. and_then (each_same f columns rows (k + 1) (λ i n e. h (suc i) n (omega arith)) t) (λ ys. Is (y ∷ ys)))

-- an expression over columns that hold what it reads gives what its term gives of the rows
pub stands_for : (e : Expr) (s : Surroundings) (columns : List Vector) (rows : List (List Value)) (n : ℕ) → length rows ≡ n → Hold columns rows (columns_read e)
    → each (val e s) (rows_at columns (range_with_len 0 n)) ≡ each (meaning (term_of e) s) rows
stands_for e s columns rows n is h =
    let same : (i m : ℕ) → m ≡ 0 + i → val e s (row_at columns m) ≡ val e s (get_or rows i []) =
    (λ i m at. let back : m ≡ i = omega arith in ap (λ (k : ℕ). val e s (row_at columns k)) back ∙ reads_alone e s (row_at columns i) (get_or rows i []) (same_cells columns rows i (columns_read e) h)) in
    ap (λ (k : ℕ). each (val e s) (rows_at columns (range_with_len 0 k))) (sym is) ∙ each_same (val e s) columns rows 0 same ∙ ap (λ (m : Meaning). each (m s) rows) (val_is_meaning e)

-- ---- columns one after another

column_more : (rows : List (List Value)) (from i j n : ℕ) → n ≡ from + i → n < length rows → column_of j (take (suc i) (drop from rows)) ≡ column_of j (take i (drop from rows)) ++ cell_of (row_of rows n) j ∷ []
column_more [] from i j n is h = absurd (omega arith)
column_more (r ∷ rows) zero zero j zero is h = refl
column_more (r ∷ rows) zero zero j (suc n) is h = absurd (omega arith)
column_more (r ∷ rows) zero (suc i) j zero is h = absurd (omega arith)
column_more (r ∷ rows) zero (suc i) j (suc n) is h = ap (λ cs. cell_of r j ∷ cs) (column_more rows zero i j n (omega arith) (omega arith))
column_more (r ∷ rows) (suc from) i j zero is h = absurd (omega arith)
column_more (r ∷ rows) (suc from) i j (suc n) is h = column_more rows from i j n (omega arith) (omega arith)

pub column_next : (rows : List (List Value)) (from i j : ℕ) → from ≤ i → i < length rows → column_of j (piece_of rows from (suc i)) ≡ column_of j (piece_of rows from i) ++ cell_of (row_of rows i) j ∷ []
column_next rows from i j low h =
    let one : suc i - from ≡ suc (i - from) = omega arith in
    ap (λ (k : ℕ). column_of j (take k (drop from rows))) one ∙ column_more rows from (i - from) j i (omega arith) h

pub piece_long : (rows : List (List Value)) (from to : ℕ) → from ≤ to → to ≤ length rows → length (piece_of rows from to) ≡ to - from
piece_long rows from to low h = length-take-le (to - from) (drop from rows) (omega (arith, length-drop from rows))

pub column_long : (j : ℕ) (rows : List (List Value)) (n : ℕ) → n ≡ length rows → length (column_of j (piece_of rows 0 n)) ≡ length rows
column_long j rows n is = length-map (piece_of rows 0 n) (λ r. cell_of r j) ∙ ap length (take_all (n - 0) rows (omega arith))

pub range_more : (a n k : ℕ) → k ≡ a + n → range_with_len a (suc n) ≡ range_with_len a n ++ k ∷ []
range_more a zero k is = let same : a ≡ k = omega arith in ap (λ (m : ℕ). m ∷ []) same
range_more a (suc n) k is = ap (λ ks. a ∷ ks) (range_more (a + 1) n k (omega arith))

pub reads_one : (e : Expr) → concat (map columns_read (e ∷ [])) ≡ columns_read e
reads_one e = append-nil (columns_read e)

pub cells_more : (old made cells : List Value) (i : ℕ) (v : Value) → i < length cells → made ≡ old ++ take i cells → v ≡ cell_of cells i → made ++ v ∷ [] ≡ old ++ take (suc i) cells
cells_more old made cells i v h is e = (λ j. is j ++ e j ∷ []) ∙ append_assoc old (take i cells) (cell_of cells i ∷ []) ∙ ap (λ vs. old ++ vs) (sym (more cells i h))
  where
    more : (cells : List Value) (i : ℕ) → i < length cells → take (suc i) cells ≡ take i cells ++ cell_of cells i ∷ []
    more [] i h = absurd (omega arith)
    more (x ∷ xs) zero h = refl
    more (x ∷ xs) (suc i) h = ap (λ ys. x ∷ ys) (more xs i (omega arith))

module _ (rows : List (List Value)) (js : List ℕ) where
  -- the columns before a number hold the cells of the rows
  abbrev pub held : List Vector → ℕ → ℕ → Type 0
  held columns n j = j < n → get_or (map cells_of columns) j [] ≡ column_of j rows

  abbrev pub fits : Vector → ℕ → ℕ → Type 0
  fits c n j = j ≡ n → cells_of c ≡ column_of j rows

  pub hold_more : (columns : List Vector) (c : Vector) (n : ℕ) → length columns ≡ n → All (held columns n) js → All (fits c n) js → All (held (columns ++ c ∷ []) (suc n)) js
  hold_more columns c n is before at =
      All-from_get_or (held (columns ++ c ∷ []) (suc n)) js 0 (λ k h. goes (get_or js k 0) (All-get_or (held columns n) js k 0 h before) (All-get_or (fits c n) js k 0 h at))
    where
      long : length (map cells_of columns) ≡ n
      long = length-map columns cells_of ∙ is

      at_end : (j : ℕ) → j ≡ n → get_or (map cells_of columns ++ cells_of c ∷ []) j [] ≡ cells_of c
      at_end j e = ap (λ (k : ℕ). get_or (map cells_of columns ++ cells_of c ∷ []) k []) (e ∙ sym long) ∙ get_or-append_seam (map cells_of columns) (cells_of c) [] []

      goes : (j : ℕ) → held columns n j → fits c n j → held (columns ++ c ∷ []) (suc n) j
      goes j before at h = rw map-append (elim (eq-or-lt_of_le {n = j} {m = n} (omega arith)) [ inl e ↦ at_end j e ∙ at e | inr l ↦ get_or-append (map cells_of columns) (cells_of c ∷ []) [] j (omega (arith, long)) ∙ before l ])

  pub hold_all : (columns : List Vector) (n : ℕ) → All (λ j. j < n) js → All (held columns n) js → Hold columns rows js
  hold_all columns n below all =
      All-from_get_or (λ j. get_or (map cells_of columns) j [] ≡ column_of j rows) js 0 (λ k h. All-get_or (held columns n) js k 0 h all (All-get_or (λ j. j < n) js k 0 h below))

  pub hold_none : All (held [] 0) js
  hold_none = All-from_get_or (held [] 0) js 0 (λ k h l. absurd (omega arith))
