-- The pieces of a text, one after another.
use Rattle.std.proofs.Common.{◌≡◌, ◌<◌, ◌≤◌, ℕ, zero, suc, ◌-◌, Bool, true, false, cond, List, [], ◌∷◌, ◌++◌, length, map, take, drop, nat_eq, Some, None, refl, sym, ap, ◌∙◌, subst, append_assoc, arith}
use Rattle.std.specs.Prelude.{slice_get}
use Rattle.std.specs.List.{starts_with, onto_first}
use Rattle.std.specs.Str.Pattern.{LacksTextAt}
use Rattle.std.proofs.Math.Seq.{drop-append_seam, take-append_seam}
use Rattle.std.proofs.lemmas.Slice.Eq.{bytes_eq-Decides}
use Rattle.std.proofs.lemmas.List.{take-append-drop}
use Rattle.kq_value_formats.specs.kq_value.Tree.{string, Trees, no_items, item, items_of}
use Rattle.kq_value_formats.specs.Members.{strings}
use Rattle.kq_value_formats.specs.Strings.{pieces_from, split, joined_by, replace_string}

passed_over : (t : List ℕ) (n : ℕ) (s : List ℕ) → pieces_from t n s ≡ pieces_from t 0 (drop n s)
passed_over t zero s = refl
passed_over t (suc n) [] = refl
passed_over t (suc n) (c ∷ s) = passed_over t n s

begins : (t after : List ℕ) → starts_with nat_eq (t ++ after) t ≡ true
begins t after = (bytes_eq-Decides t (take (length t) (t ++ after))).1 (sym (take-append_seam t after))

lacks : (t s : List ℕ) → LacksTextAt t s 0 → starts_with nat_eq s t ≡ false
lacks t s h = not_true (starts_with nat_eq s t) (λ e. h (drop (length t) s) (sym (take-append-drop (length t) s) ∙ ap (λ xs. xs ++ drop (length t) s) (sym ((bytes_eq-Decides t (take (length t) s)).0 e))))
  where
    not_true : (b : Bool) → (b ≡ true → ⊥) → b ≡ false
    not_true true h = absurd (h refl)
    not_true false h = refl

at_front : (b : ℕ) (t after : List ℕ) → pieces_from (b ∷ t) 0 (b ∷ t ++ after) ≡ [] ∷ pieces_from (b ∷ t) 0 after
at_front b t after =
    let n : length (b ∷ t) - 1 ≡ length t = omega arith in
    rw (begins (b ∷ t) after) (ap (λ ps. [] ∷ ps) (ap (λ m. pieces_from (b ∷ t) m (t ++ after)) n ∙ passed_over (b ∷ t) (length t) (t ++ after) ∙ ap (pieces_from (b ∷ t) 0) (drop-append_seam t after)))

one_more : (t : List ℕ) (c : ℕ) (s : List ℕ) → LacksTextAt t (c ∷ s) 0 → pieces_from t 0 (c ∷ s) ≡ onto_first c (pieces_from t 0 s)
one_more t c s h = rw (lacks t (c ∷ s) h)

first_piece : (b : ℕ) (t piece after : List ℕ) → ((k : ℕ) → k < length piece → LacksTextAt (b ∷ t) (piece ++ (b ∷ t ++ after)) k) → pieces_from (b ∷ t) 0 (piece ++ (b ∷ t ++ after)) ≡ piece ∷ pieces_from (b ∷ t) 0 after
first_piece b t [] after h = at_front b t after
first_piece b t (c ∷ piece) after h =
    one_more (b ∷ t) c (piece ++ (b ∷ t ++ after)) (h 0 (omega arith)) ∙ ap (onto_first c) (first_piece b t piece after (λ k lt. h (suc k) (omega arith)))

last_piece : (b : ℕ) (t s : List ℕ) → ((k : ℕ) → k ≤ length s → LacksTextAt (b ∷ t) s k) → pieces_from (b ∷ t) 0 s ≡ s ∷ []
last_piece b t [] h = refl
last_piece b t (c ∷ s) h = one_more (b ∷ t) c s (h 0 (omega arith)) ∙ ap (onto_first c) (last_piece b t s (λ k le. h (suc k) (omega arith)))

pub split-first : (s t piece after : List ℕ) (i : ℕ) → 0 < length t → s ≡ piece ++ (t ++ after) → length piece ≡ i → ((k : ℕ) → k < i → LacksTextAt t s k) → split s t ≡ piece ∷ split after t
split-first s [] piece after i some is n h = absurd (omega arith)
split-first s (b ∷ t) piece after i some is n h =
    ap (pieces_from (b ∷ t) 0) is ∙ first_piece b t piece after (λ k lt. subst (λ (xs : List ℕ). LacksTextAt (b ∷ t) xs k) is (h k (omega arith)))

pub split-last : (s t : List ℕ) → 0 < length t → ((k : ℕ) → k ≤ length s → LacksTextAt t s k) → split s t ≡ s ∷ []
split-last s [] some h = absurd (omega arith)
split-last s (b ∷ t) some h = last_piece b t s h

pub split-empty : (s t : List ℕ) → length t ≡ 0 → split s t ≡ s ∷ []
split-empty s [] h = refl
split-empty s (b ∷ t) h = absurd (omega arith)

-- ---- there is always a piece

either : (b : Bool) (c : ℕ) (xs ys : List (List ℕ)) → (q : List ℕ) × (ps : List (List ℕ)) × (cond b ([] ∷ xs) (onto_first c ys) ≡ q ∷ ps)
either true c xs ys = ([], xs, refl)
either false c xs [] = (c ∷ [], [], refl)
either false c xs (y ∷ ys) = (c ∷ y, ys, refl)

pieces_some : (t : List ℕ) (n : ℕ) (s : List ℕ) → (q : List ℕ) × (ps : List (List ℕ)) × (pieces_from t n s ≡ q ∷ ps)
pieces_some t n [] = ([], [], refl)
pieces_some t (suc n) (c ∷ s) = pieces_some t n s
pieces_some t zero (c ∷ s) = either (starts_with nat_eq (c ∷ s) t) c (pieces_from t (length t - 1) s) (pieces_from t 0 s)

split_some : (s t : List ℕ) → (q : List ℕ) × (ps : List (List ℕ)) × (split s t ≡ q ∷ ps)
split_some s [] = (s, [], refl)
split_some s (b ∷ t) = pieces_some (b ∷ t) 0 s

pub replace-first : (s t u piece after : List ℕ) → split s t ≡ piece ∷ split after t → replace_string s t u ≡ piece ++ (u ++ replace_string after t u)
replace-first s t u piece after e =
    let q = split_some after t in
    ap (joined_by u) e ∙ rw q.2 (append_assoc piece u _)

-- ---- one of the pieces

pub next_piece : (ps : List (List ℕ)) (p : List ℕ) (qs : List (List ℕ)) (n i : ℕ) → i < n → ps ≡ p ∷ qs → slice_get ps (n - i) ≡ slice_get qs (n - suc i)
next_piece ps p qs n i h e =
    let one : n - i ≡ suc (n - suc i) = omega arith in
    ap (λ (xs : List (List ℕ)). slice_get xs (n - i)) e ∙ ap (slice_get (p ∷ qs)) one

none_there : (ps : List (List ℕ)) (k : ℕ) → length ps ≡ 0 → slice_get ps k ≡ None
none_there [] zero h = refl
none_there [] (suc k) h = refl
none_there (p ∷ ps) k h = absurd (omega arith)

pub none_behind : (ps : List (List ℕ)) (p : List ℕ) (n i : ℕ) → i < n → ps ≡ p ∷ [] → slice_get ps (n - i) ≡ None
none_behind ps p n i h e = next_piece ps p [] n i h e ∙ none_there [] (n - suc i) refl

pub piece_here : (ps : List (List ℕ)) (p : List ℕ) (qs : List (List ℕ)) (n i : ℕ) → n ≤ i → ps ≡ p ∷ qs → slice_get ps (n - i) ≡ Some p
piece_here ps p qs n i h e =
    let none : n - i ≡ 0 = omega arith in
    ap (λ (xs : List (List ℕ)). slice_get xs (n - i)) e ∙ ap (slice_get (p ∷ qs)) none

-- ---- pieces as an array

pub strings-from : (ts : Trees) (ps : List (List ℕ)) → items_of ts ≡ map string ps → ts ≡ strings ps
strings-from no_items [] e = refl
strings-from no_items (p ∷ ps) e = cc
strings-from (item t ts) [] e = cc
strings-from (item t ts) (p ∷ ps) e =
    let h : t ≡ string p = cc in
    let r = strings-from ts ps cc in
    rw (h, r)
