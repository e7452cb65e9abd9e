-- What the rows in a buffer are.
use Rattle.std.proofs.Common.{◌≡◌, ◌<◌, ◌≤◌, ◌+◌, ◌*◌, ℕ, zero, suc, List, [], ◌∷◌, ◌++◌, Some, length, map, get_or, take, drop, refl, sym, ap, ◌∙◌, arith, slice_get, subst}
use Rattle.std.proofs.lemmas.List.{drop-drop, drop-take, take-take, length-take-le, length-drop, length-append, take-append-le, drop-append-le, take_all, nil_from_length, get_or_at}
use Rattle.std.proofs.lemmas.List.Elements.{All-map, All-nil, All-cons}
use Rattle.std.proofs.lemmas.Nat.{rows}
use Rattle.std.proofs.lemmas.Option.{get_or_from_slice_get}
use Rattle.std.specs.List.{All}
use Rattle.kq_store_rows.specs.Chunks.{chunks, HasWidth, same_width}

pub length-chunks : {T : Type 0} (n w : ℕ) (cs : List T) → length (chunks n w cs) ≡ n
length-chunks zero w cs = refl
length-chunks (suc n) w cs = ap suc (length-chunks n w (drop w cs))

mul_suc : (n w : ℕ) → suc n * w ≡ w + n * w
mul_suc n w = grind arith

pub chunk_at : {T : Type 0} (n w : ℕ) (cs : List T) (i : ℕ) (d : List T) → i < n → get_or (chunks n w cs) i d ≡ take w (drop (i * w) cs)
chunk_at zero w cs i d h = absurd (omega arith)
chunk_at (suc n) w cs zero d h = let none : 0 * w ≡ 0 = grind arith in rw none refl
chunk_at (suc n) w cs (suc i) d h = chunk_at n w (drop w cs) i d (omega arith) ∙ ap (λ (x : List _). take w x) (drop-drop (i * w) w cs ∙ ap (λ (k : ℕ). drop k cs) (sym (mul_suc i w)))

pub chunks-append : {T : Type 0} (n m w : ℕ) (cs ds : List T) → length cs ≡ n * w → chunks (n + m) w (cs ++ ds) ≡ chunks n w cs ++ chunks m w ds
chunks-append zero m w cs ds h = rw (nil_from_length cs (h ∙ (grind arith))) (ap (λ (k : ℕ). chunks k w ds) (omega arith))
chunks-append (suc n) m w cs ds h =
    let long : w ≤ length cs = omega (arith, h, mul_suc n w) in
    let rest : length (drop w cs) ≡ n * w = omega (arith, length-drop w cs, h, mul_suc n w) in
    let count : suc n + m ≡ suc (n + m) = omega arith in
    rw (count, take-append-le w cs ds long, drop-append-le w cs ds long, chunks-append n m w (drop w cs) ds rest) refl

pub chunks-push : {T : Type 0} (n w : ℕ) (cs row : List T) → length cs ≡ n * w → length row ≡ w → chunks (n + 1) w (cs ++ row) ≡ chunks n w cs ++ row ∷ []
chunks-push n w cs row h wide = chunks-append n 1 w cs row h ∙ ap (λ (r : List _). chunks n w cs ++ r ∷ []) (take_all w row (omega arith))

pub chunks-take : {T : Type 0} (m n w : ℕ) (cs : List T) → m ≤ n → length cs ≡ n * w → chunks m w (take (m * w) cs) ≡ take m (chunks n w cs)
chunks-take zero n w cs within h = refl
chunks-take (suc m) zero w cs within h = absurd (omega arith)
chunks-take (suc m) (suc n) w cs within h =
    let rest : length (drop w cs) ≡ n * w = omega (arith, length-drop w cs, h, mul_suc n w) in
    rw (mul_suc m w, take-take w (w + m * w) cs (omega arith), drop-take w (m * w) cs, chunks-take m n w (drop w cs) (omega arith) rest) refl

pub head_width : {T : Type 0} (n w : ℕ) (cs : List T) → length cs ≡ suc n * w → length (take w cs) ≡ w
head_width n w cs h = length-take-le w cs (omega (arith, h, mul_suc n w))

-- where there are rows, they are of the width that is kept
pub width_is : {T : Type 0} (n w v : ℕ) (cs : List T) → 0 < n → length cs ≡ n * w → All (HasWidth v) (chunks n w cs) → w ≡ v
width_is zero w v cs some h all = absurd (omega arith)
width_is (suc n) w v cs some h all = sym (head_width n w cs h) ∙ all 0 [] (omega arith)

empty : {T : Type 0} (n w : ℕ) (cs : List T) → n ≡ 0 → length cs ≡ n * w → cs ≡ []
empty n w cs e h = let none : n * w ≡ 0 = rw e (grind arith) in nil_from_length cs (h ∙ none)

pub long_push : {T : Type 0} (n w : ℕ) (cs row : List T) → length cs ≡ n * w → All (HasWidth (length row)) (chunks n w cs) → length (cs ++ row) ≡ (n + 1) * length row
long_push zero w cs row h all = rw (empty zero w cs refl h) (grind arith)
long_push (suc n) w cs row h all = let e = width_is (suc n) w (length row) cs (omega arith) h all in
    let g : length cs ≡ suc n * length row = h ∙ ap (λ (k : ℕ). suc n * k) e in
    let l = length-append cs row in grind arith

pub chunks_push : {T : Type 0} (n w : ℕ) (cs row : List T) → length cs ≡ n * w → All (HasWidth (length row)) (chunks n w cs) → chunks (n + 1) (length row) (cs ++ row) ≡ chunks n w cs ++ row ∷ []
chunks_push zero w cs row h all = rw (empty zero w cs refl h) (ap (λ (r : List _). r ∷ []) (take_all (length row) row (omega arith)))
chunks_push (suc n) w cs row h all = let e = width_is (suc n) w (length row) cs (omega arith) h all in
    rw (← e) (chunks-push (suc n) w cs row h (sym e))

-- two lists of rows of one width, of which the second has some
pub widths_are : {T : Type 0} (n w m v : ℕ) (cs ds : List T) → 0 < n → 0 < m → length cs ≡ n * w → length ds ≡ m * v → same_width (chunks n w cs ++ chunks m v ds) → w ≡ v
widths_are zero w m v cs ds some others h k all = absurd (omega arith)
widths_are (suc n) w zero v cs ds some others h k all = absurd (omega arith)
widths_are (suc n) w (suc m) v cs ds some others h k all =
    let rest = chunks n w (drop w cs) in
    let second : length (get_or (rest ++ chunks (suc m) v ds) (length rest) []) ≡ length (take w cs) = all (length rest) [] (omega (arith, length-append rest (chunks (suc m) v ds))) in
    let it : get_or (rest ++ chunks (suc m) v ds) (length rest) [] ≡ take v ds = get_or_at rest (take v ds) _ [] (length rest) refl in
    sym (head_width n w cs h) ∙ sym second ∙ ap length it ∙ head_width m v ds k

pub long_append : {T : Type 0} (n w m v : ℕ) (cs ds : List T) → 0 < m → length cs ≡ n * w → length ds ≡ m * v → same_width (chunks n w cs ++ chunks m v ds) → length (cs ++ ds) ≡ (n + m) * v
long_append zero w m v cs ds others h k all = rw (empty zero w cs refl h) (k ∙ ap (λ (j : ℕ). j * v) (omega arith))
long_append (suc n) w m v cs ds others h k all = let e = widths_are (suc n) w m v cs ds (omega arith) others h k all in
    let g : length cs ≡ suc n * v = h ∙ ap (λ (j : ℕ). suc n * j) e in
    let l = length-append cs ds in grind arith

pub chunks_append : {T : Type 0} (n w m v : ℕ) (cs ds : List T) → 0 < m → length cs ≡ n * w → length ds ≡ m * v → same_width (chunks n w cs ++ chunks m v ds) → chunks (n + m) v (cs ++ ds) ≡ chunks n w cs ++ chunks m v ds
chunks_append zero w m v cs ds others h k all = rw (empty zero w cs refl h) (ap (λ (j : ℕ). chunks j v ds) (omega arith))
chunks_append (suc n) w m v cs ds others h k all = let e = widths_are (suc n) w m v cs ds (omega arith) others h k all in
    rw (← e) (chunks-append (suc n) m w cs ds h)

-- the cells of a row lie in the buffer
pub row_within : {T : Type 0} (n w : ℕ) (cs : List T) (i : ℕ) → i < n → length cs ≡ n * w → i * w + w ≤ length cs
row_within n w cs i l h = grind (arith, rows)

-- rows that were taken from a list of rows of one width are of that width
pub picked_width : {T : Type 0} (all : List (List T)) (places : List ℕ) (row : List T) (v : ℕ) → All (HasWidth v) all → length row ≡ v → All (λ i. i < length all) places → All (HasWidth (length row)) (map (λ i. get_or all i []) places)
picked_width all places row v wide is known = All-map (HasWidth (length row)) (λ i. get_or all i []) places (λ k d l. wide (get_or places k d) [] (known k d l) ∙ sym is)

pub row_got : {T : Type 0} (n w : ℕ) (cs : List T) (i : ℕ) → i < n → slice_get (chunks n w cs) i ≡ Some (take w (drop (i * w) cs))
row_got zero w cs i h = absurd (omega arith)
row_got (suc n) w cs zero h = let none : 0 * w ≡ 0 = grind arith in rw none refl
row_got (suc n) w cs (suc i) h = row_got n w (drop w cs) i (omega arith) ∙ ap (λ (x : List _). Some (take w x)) (drop-drop (i * w) w cs ∙ ap (λ (k : ℕ). drop k cs) (sym (mul_suc i w)))

pub chunks_wide : {T : Type 0} (n w : ℕ) (cs : List T) → length cs ≡ n * w → All (HasWidth w) (chunks n w cs)
chunks_wide zero w cs h = All-nil (HasWidth w)
chunks_wide (suc n) w cs h = let rest : length (drop w cs) ≡ n * w = omega (arith, length-drop w cs, h, mul_suc n w) in
    All-cons (HasWidth w) (take w cs) (chunks n w (drop w cs)) (head_width n w cs h) (chunks_wide n w (drop w cs) rest)

-- what holds of all holds of one that was got
pub All-got : {X : Type 0} (P : X → Type 0) (xs : List X) (i : ℕ) (x : X) → All P xs → i < length xs → slice_get xs i ≡ Some x → P x
All-got P xs i x all within got = subst P (get_or_from_slice_get xs i x x got) (all i x within)

pub wide_by : {T : Type 0} (n w v : ℕ) (cs : List T) → length cs ≡ n * w → w ≡ v → All (HasWidth v) (chunks n w cs)
wide_by n w v cs h e = subst (λ (k : ℕ). All (HasWidth k) (chunks n w cs)) e (chunks_wide n w cs h)

-- no rows are of any width
pub none_wide : {T : Type 0} (n w v : ℕ) (cs : List T) → n ≡ 0 → All (HasWidth v) (chunks n w cs)
none_wide n w v cs none = rw none (All-nil (HasWidth v))
