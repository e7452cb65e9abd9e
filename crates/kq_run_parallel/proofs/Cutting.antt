-- Rows that are cut in two.
use Rattle.std.proofs.Common.{◌≡◌, ◌<◌, ◌≤◌, ◌+◌, ◌-◌, ◌++◌, ◌∙◌, ℕ, suc, List, [], ◌∷◌, drop, length, map, take, refl, sym, ap, append_assoc, arith, length-drop}
use Rattle.std.proofs.lemmas.List.{drop-drop, drop-take, length-take, take-append-drop, take-take}
use Rattle.kq_run_gather.specs.kq_eval_pieces.Operators.{Row}
use Rattle.kq_run_gather.specs.kq_eval_pieces.Pieces.{piece_of}
use Rattle.kq_run_gather.specs.kq_run_row_operators.Ran.{joined}
use Rattle.kq_run_gather.specs.declared.pipeline.Pipeline.{Pipeline}
use Rattle.kq_run_gather.specs.Pipelines.{ran_through}
use Rattle.kq_run_gather.proofs.kq_run_row_operators.Laws.{ran_append}
use Rattle.kq_run_scan.specs.Beside.{places_found}

first_and_rest : (m n : ℕ) (rows : List Row) → take (m + n) rows ≡ take m rows ++ take n (drop m rows)
first_and_rest m n rows = sym (take-append-drop m (take (m + n) rows)) ∙ (λ t. take-take m (m + n) rows (omega arith) t ++ drop-take m n rows t)

pub cut_in_two : (rows : List Row) (i j k : ℕ) → i ≤ j → j ≤ k → piece_of rows i k ≡ piece_of rows i j ++ piece_of rows j k
cut_in_two rows i j k up on =
    let whole : k - i ≡ (j - i) + (k - j) = omega (arith, up, on) in
    let far : i + (j - i) ≡ j = omega (arith, up) in
    ap (λ (n : ℕ). take n (drop i rows)) whole ∙ first_and_rest (j - i) (k - j) (drop i rows)
    ∙ ap (λ (rs : List Row). piece_of rows i j ++ take (k - j) rs) (drop-drop (j - i) i rows ∙ ap (λ (n : ℕ). drop n rows) far)

pub ran_in_two : (p : Pipeline) (rows : List Row) (i j k : ℕ) → i ≤ j → j ≤ k → ran_through p (piece_of rows i k) ≡ joined (ran_through p (piece_of rows i j)) (ran_through p (piece_of rows j k))
ran_in_two p rows i j k up on = ap (ran_through p) (cut_in_two rows i j k up on) ∙ ran_append _ _ (piece_of rows i j) (piece_of rows j k)

-- ---- the places of rows beside those that are found for them

found_append : (found : Row → List ℕ) (i : ℕ) (a b : List Row) → places_found found i (a ++ b) ≡ places_found found i a ++ places_found found (i + length a) b
found_append found i [] b = ap (λ (n : ℕ). places_found found n b) (let same : i ≡ i + 0 = omega arith in same)
found_append found i (r ∷ a) b =
    let here = map (λ (q : ℕ). (i, q)) (found r) in
    let on : (i + 1) + length a ≡ i + suc (length a) = omega arith in
    ap (λ (ps : List (ℕ × ℕ)). here ++ ps) (found_append found (i + 1) a b ∙ ap (λ (n : ℕ). places_found found (i + 1) a ++ places_found found n b) on)
    ∙ sym (append_assoc here (places_found found (i + 1) a) (places_found found (i + suc (length a)) b))

-- where no rows are, their first number doesn't count
found_from : (found : Row → List ℕ) (m n : ℕ) (rows : List Row) → (0 < length rows → m ≡ n) → places_found found m rows ≡ places_found found n rows
found_from found m n [] same = refl
found_from found m n (r ∷ rows) same = ap (λ (k : ℕ). places_found found k (r ∷ rows)) (same (omega arith))

pub found_in_two : (found : Row → List ℕ) (rows : List Row) (i j k : ℕ) → i ≤ j → j ≤ k
    → places_found found i (piece_of rows i k) ≡ places_found found i (piece_of rows i j) ++ places_found found j (piece_of rows j k)
found_in_two found rows i j k up on =
    let a = piece_of rows i j in
    let b = piece_of rows j k in
    let long = length-take (j - i) (drop i rows) in
    let left = length-drop i rows in
    let rest = length-take (k - j) (drop j rows) in
    let behind = length-drop j rows in
    ap (places_found found i) (cut_in_two rows i j k up on) ∙ found_append found i a b
    ∙ ap (λ (ps : List (ℕ × ℕ)). places_found found i a ++ ps) (found_from found (i + length a) j b (λ some. omega (arith, up, on, long, left, rest, behind, some)))
