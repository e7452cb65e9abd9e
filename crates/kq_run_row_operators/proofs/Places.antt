-- The rows of pieces, by their places.
use Rattle.std.proofs.Common.{◌≡◌, ◌<◌, ◌≤◌, ◌+◌, ◌-◌, ℕ, zero, suc, min, List, [], ◌∷◌, length, map, get_or, take, drop, refl, sym, ap, ◌∙◌, arith}
use Rattle.std.proofs.lemmas.List.{drop-drop, drop-map, drop-take, get_or-drop, get_or-map, get_or-take, length-drop, length-map, length-take, take-map, take-take}
use Rattle.std.proofs.lemmas.List.Elements.{All-head, All-tail}
use Rattle.std.specs.List.{All}
use Rattle.kq_eval_pieces.specs.Operators.{Row}
use Rattle.kq_eval_pieces.specs.Pieces.{column_of, piece_of}
use Rattle.kq_eval_pieces.specs.kq_eval_row.Val.{cell_of}
use Rattle.kq_store_rows.specs.Chunks.{row_at}

pub piece_length : (rows : List Row) (from to : ℕ) → length (piece_of rows from to) ≡ min (to - from) (length rows - from)
piece_length rows from to = length-take (to - from) (drop from rows) ∙ ap (λ (n : ℕ). min (to - from) n) (length-drop from rows)

pub piece_within : (rows : List Row) (from to i : ℕ) → i < length (piece_of rows from to) → from + i < length rows
piece_within rows from to i h = let n = piece_length rows from to in omega (arith, n, h)

pub piece_row : (rows : List Row) (from to i : ℕ) → i < length (piece_of rows from to) → row_at rows (from + i) ≡ row_at (piece_of rows from to) i
piece_row rows from to i h =
    let n = piece_length rows from to in
    sym (get_or-take (to - from) (drop from rows) i [] (omega (arith, n, h)) ∙ get_or-drop from rows i [])

-- a piece of a piece
pub piece_again : (rows : List Row) (a b from to : ℕ) → from ≤ to → to ≤ length (piece_of rows a b) → piece_of (piece_of rows a b) from to ≡ piece_of rows (a + from) (a + to)
piece_again rows a b from to low high =
    let n = piece_length rows a b in
    let m = (b - a) - from in
    let whole : b - a ≡ from + m = omega (arith, n, low, high) in
    let within : to - from ≤ m = omega (arith, n, low, high) in
    let long : to - from ≡ (a + to) - (a + from) = omega arith in
    ap (λ (k : ℕ). take (to - from) (drop from (take k (drop a rows)))) whole
    ∙ ap (take (to - from)) (drop-take from m (drop a rows))
    ∙ take-take (to - from) m (drop from (drop a rows)) within
    ∙ ap (take (to - from)) (drop-drop from a rows)
    ∙ ap (λ (k : ℕ). take k (drop (a + from) rows)) long

pub piece_ends : (rows : List Row) (a b from to : ℕ) → from < to → to ≤ length (piece_of rows a b) → a + to ≤ length rows
piece_ends rows a b from to less high = let n = piece_length rows a b in omega (arith, n, less, high)

-- a column of chosen rows, from one on, up to another
pub column_chosen : (rows : List Row) (places qs : List ℕ) (from to j : ℕ) → qs ≡ take (to - from) (drop from places)
    → map (λ p. cell_of (row_at rows p) j) qs ≡ column_of j (piece_of (map (row_at rows) places) from to)
column_chosen rows places qs from to j is =
    ap (map (λ p. cell_of (row_at rows p) j)) is ∙ sym (twice (take (to - from) (drop from places)))
    ∙ ap (column_of j) (sym (ap (take (to - from)) (drop-map (row_at rows) from places) ∙ take-map (row_at rows) (to - from) (drop from places)))
  where
    twice : (ps : List ℕ) → map (λ r. cell_of r j) (map (row_at rows) ps) ≡ map (λ p. cell_of (row_at rows p) j) ps
    twice [] = refl
    twice (p ∷ ps) = ap (λ cs. cell_of (row_at rows p) j ∷ cs) (twice ps)

-- the row at a chosen place
pub chosen_row : (rows : List Row) (places : List ℕ) (i p : ℕ) → i < length places → p ≡ get_or places i p → row_at (map (row_at rows) places) i ≡ row_at rows p
chosen_row rows places i p h is = get_or-map (row_at rows) places i p [] h ∙ ap (row_at rows) (sym is)

pub row_past : (rows : List Row) (i : ℕ) → length rows ≤ i → row_at rows i ≡ []
row_past [] i h = refl
row_past (r ∷ rows) zero h = absurd (omega arith)
row_past (r ∷ rows) (suc i) h = row_past rows i (omega arith)

-- the rows at places of a part, by their places in the whole
pub part_chosen : (rows : List Row) (from to : ℕ) (ps qs : List ℕ) → All (λ p. p < length (piece_of rows from to)) ps → qs ≡ map (λ p. from + p) ps → map (row_at rows) qs ≡ map (row_at (piece_of rows from to)) ps
part_chosen rows from to ps qs all is = ap (map (row_at rows)) is ∙ go ps all
  where
    go : (ps : List ℕ) → All (λ p. p < length (piece_of rows from to)) ps → map (row_at rows) (map (λ p. from + p) ps) ≡ map (row_at (piece_of rows from to)) ps
    go [] all = refl
    go (p ∷ ps) all =
        let P = λ (p : ℕ). p < length (piece_of rows from to) in
        let here = piece_row rows from to p (All-head P p ps all) in
        let rest = go ps (All-tail P p ps all) in
        λ j. here j ∷ rest j

-- the rows at places of chosen rows
pub chosen_again : (rows : List Row) (before ps qs : List ℕ) → All (λ p. p < length (map (row_at rows) before)) ps → qs ≡ map (λ n. get_or before n 0) ps
    → map (row_at rows) qs ≡ map (row_at (map (row_at rows) before)) ps
chosen_again rows before ps qs all is = ap (map (row_at rows)) is ∙ go ps all
  where
    go : (ps : List ℕ) → All (λ p. p < length (map (row_at rows) before)) ps → map (row_at rows) (map (λ n. get_or before n 0) ps) ≡ map (row_at (map (row_at rows) before)) ps
    go [] all = refl
    go (p ∷ ps) all =
        let P = λ (p : ℕ). p < length (map (row_at rows) before) in
        let n = length-map before (row_at rows) in
        let here : row_at rows (get_or before p 0) ≡ row_at (map (row_at rows) before) p = sym (get_or-map (row_at rows) before p 0 [] (let h = All-head P p ps all in omega (arith, n, h))) in
        let rest = go ps (All-tail P p ps all) in
        λ j. here j ∷ rest j
