-- Rows of sources, from a place on.
use Rattle.std.proofs.Common.{◌≡◌, ◌<◌, ◌≤◌, ◌+◌, ◌-◌, ◌++◌, ℕ, zero, suc, List, [], ◌∷◌, Some, length, map, take, drop, get_or, refl, sym, ap, subst, ◌∙◌, arith, add-one, append-nil, append_assoc, length-drop}
use Rattle.std.specs.List.{All, slice_get}
use Rattle.std.proofs.lemmas.List.{drop-append-le, drop-drop, drop_all, drop_at, get_or_past, length-take-le, map-append, take-append-drop, take_all}
use Rattle.std.proofs.lemmas.List.Elements.{All-drop, All-take}
use Rattle.std.proofs.lemmas.Option.{get_or_from_slice_get, none-some, same_Some}
use Rattle.kq_store_extent.specs.Seen.{ExtentView, HeldExtents, held_extents, records_in, row_of}
use Rattle.kq_store_extent.proofs.Walked.{rows_by}
use Rattle.kq_run_row_operators.specs.kq_eval_pieces.Operators.{Row}
use Rattle.kq_store_rows.specs.Chunks.{HasWidth}
use Rattle.kq_run_row_operators.specs.kq_eval_pieces.Pieces.{piece_of}
use Rattle.kq_run_scan.specs.Held.{IsReadable, rows_in, sources_in}
use Rattle.kq_run_scan.specs.Lent.{rows_held, rows_of}
use Rattle.kq_run_scan.specs.Unread.{BeginsAt, IsRead, UnreadView, rows_among, rows_from, width_of}
use Rattle.kq_run_scan.specs.declared.place.Place.{Place}
use Rattle.kq_run_scan.specs.declared.place.Place.TheVariants.{Own, Framed, Lent, Beside}
use Rattle.kq_run_scan.proofs.Walks.{rows_by-held}
use Rattle.kq_run_scan.proofs.Widths.{all_wide, first_all, other_all}

pub from_start : (sources : List (List Row)) (i : ℕ) → rows_from sources i 0 ≡ rows_among (drop i sources)
from_start [] zero = refl
from_start [] (suc i) = refl
from_start (x ∷ xs) zero = refl
from_start (x ∷ xs) (suc i) = from_start xs i

-- a source without rows that are left
pub passed : (sources : List (List Row)) (i j : ℕ) → length (get_or sources i []) ≤ j → rows_from sources i j ≡ rows_from sources (i + 1) 0
passed sources i j past =
    ap (λ (rs : List Row). rs ++ rows_among (drop (suc i) sources)) (drop_all j (get_or sources i []) past)
    ∙ sym (from_start sources (suc i)) ∙ ap (λ (k : ℕ). rows_from sources k 0) (sym (add-one i))

pub ended : (sources : List (List Row)) (i j : ℕ) → length sources ≤ i → rows_from sources i j ≡ []
ended sources i j past =
    (λ t. drop j (get_or_past sources i [] past t) ++ rows_among (drop_all (suc i) sources (omega arith) t))
    ∙ ap (λ (rs : List Row). rs ++ []) (drop_all j [] (omega arith))

-- ---- the place of a row among all

-- the rows of a source and of those behind it, without the first
pub found : (sources : List (List Row)) (i n : ℕ) → n ≤ length (get_or sources i []) → drop n (rows_among (drop i sources)) ≡ rows_from sources i n
found sources i n within = ap (drop n) (sym (from_start sources i)) ∙ drop-append-le n (get_or sources i []) (rows_among (drop (suc i) sources)) within

-- without all of the source, those are behind it
pub further : (sources : List (List Row)) (i n left : ℕ) → n ≡ length (get_or sources i []) + left → drop n (rows_among (drop i sources)) ≡ drop left (rows_among (drop (i + 1) sources))
further sources i n left is =
    let rows = get_or sources i [] in
    let rest = rows_among (drop (suc i) sources) in
    ap (drop n) (sym (from_start sources i)) ∙ ap (λ (k : ℕ). drop k (rows ++ rest)) is ∙ sym (drop-drop left (length rows) (rows ++ rest)) ∙ ap (drop left) (drop_at rows rest (length rows) refl)
    ∙ ap (λ (k : ℕ). drop left (rows_among (drop k sources))) (sym (add-one i))

pub none_further : (sources : List (List Row)) (i j left : ℕ) → length sources ≤ i → length sources ≤ j → drop left (rows_among (drop i sources)) ≡ rows_from sources j 0
none_further sources i j left past end =
    ap (λ (rest : List (List Row)). drop left (rows_among rest)) (drop_all i sources past) ∙ drop_all left [] (omega arith) ∙ sym (ended sources j 0 end)

-- a part of a source, and what is left behind it
pub taken : (sources : List (List Row)) (i j k : ℕ) (rows : List Row) → slice_get sources i ≡ Some rows → j ≤ k → rows_from sources i j ≡ piece_of rows j k ++ rows_from sources i k
taken sources i j k rows got up =
    let is : get_or sources i [] ≡ rows = get_or_from_slice_get sources i rows [] got in
    let far : j + (k - j) ≡ k = omega (arith, up) in
    let rest = rows_among (drop (suc i) sources) in
    let split : drop j rows ≡ piece_of rows j k ++ drop k rows =
    sym (take-append-drop (k - j) (drop j rows)) ∙ ap (λ (rs : List Row). take (k - j) (drop j rows) ++ rs) (drop-drop (k - j) j rows ∙ ap (λ (n : ℕ). drop n rows) far) in
    ap (λ (rs : List Row). drop j rs ++ rest) is ∙ ap (λ (rs : List Row). rs ++ rest) split ∙ append_assoc (piece_of rows j k) (drop k rows) rest
    ∙ ap (λ (rs : List Row). piece_of rows j k ++ (drop k rs ++ rest)) (sym is)

-- of two lists, one after another, the first so many, where the former has fewer
take_over : (n : ℕ) (xs ys : List Row) (left : ℕ) → n ≡ length xs + left → take n (xs ++ ys) ≡ xs ++ take left ys
take_over n [] ys left is = let same : n ≡ left = omega (arith, is) in ap (λ (k : ℕ). take k ys) same
take_over zero (x ∷ xs) ys left is = absurd (omega (arith, is))
take_over (suc n) (x ∷ xs) ys left is = ap (λ (zs : List Row). x ∷ zs) (take_over n xs ys left (omega (arith, is)))

long_taken : (rows : List Row) (j k : ℕ) → k ≤ length rows → length (piece_of rows j k) ≡ k - j
long_taken rows j k within = length-take-le (k - j) (drop j rows) (let m = length-drop j rows in omega (arith, m, within))

pub some_taken : (rows : List Row) (j k : ℕ) → j < k → k ≤ length rows → 0 < length (piece_of rows j k)
some_taken rows j k less within = let n = long_taken rows j k within in omega (arith, n, less)

-- what all rows of all sources are, those of one are
all_of : (P : Row → Type 0) (sources : List (List Row)) (i : ℕ) (rows : List Row) → slice_get sources i ≡ Some rows → All P (rows_among sources) → All P rows
all_of P [] i rows got all = absurd (none-some rows got)
all_of P (x ∷ xs) zero rows got all = subst (λ (rs : List Row). All P rs) (same_Some x rows got) (first_all P x (rows_among xs) all)
all_of P (x ∷ xs) (suc i) rows got all = all_of P xs i rows got (other_all P x (rows_among xs) all)

by_extent : (es : List ExtentView) → rows_by es ≡ rows_among (map rows_of es)
by_extent [] = refl
by_extent (e ∷ es) = map-append row_of e.records (records_in es) ∙ ap (λ (rs : List Row). rows_of e ++ rs) (by_extent es)

pub held_among : (held : HeldExtents) → rows_held held ≡ rows_among (map rows_of (held_extents held))
held_among held = sym (rows_by-held held) ∙ by_extent (held_extents held)

pub all_among : (place : Place) → rows_in place ≡ rows_among (sources_in place)
all_among (Own rows) = sym (append-nil rows)
all_among (Framed rows) = sym (append-nil rows)
all_among (Lent extents) = held_among extents
all_among (Beside sources) = refl

-- the rows of a part are what all rows are
pub all_taken : (P : Row → Type 0) (place : Place) (i j k : ℕ) (rows : List Row) → slice_get (sources_in place) i ≡ Some rows → All P (rows_in place) → All P (piece_of rows j k)
all_taken P place i j k rows got all =
    All-take P (k - j) (drop j rows) (All-drop P j rows (all_of P (sources_in place) i rows got (subst (λ (rs : List Row). All P rs) (all_among place) all)))

-- what is left before and behind a part: so many rows from a place on
abbrev pub left_at : Place → ℕ → ℕ → ℕ → UnreadView
left_at place i j n = record { rows = take n (rows_from (sources_in place) i j); width = width_of (rows_in place) }

even : (place : Place) → IsReadable place → All (HasWidth (width_of (rows_in place))) (rows_in place)
even (Own rows) readable = all_wide rows readable
even (Framed rows) readable = all_wide rows readable
even (Lent extents) readable = all_wide (rows_held extents) readable.wide
even (Beside sources) readable = all_wide (rows_among sources) readable

pub part_read : (place : Place) (a b i j k n left : ℕ) (rows : List Row) → BeginsAt (sources_in place) i j (rows_from (sources_in place) a b) → slice_get (sources_in place) i ≡ Some rows → (j < length rows → j < k) → k ≤ length rows
    → n ≡ (k - j) + left → IsReadable place → IsRead (left_at place a b n) (piece_of rows j k) (left_at place i k left)
part_read place a b i j k n left rows begins got more within is readable =
    let sources = sources_in place in
    let part = piece_of rows j k in
    let up : j < k = more (subst (λ (rs : List Row). j < length rs) (get_or_from_slice_get sources i rows [] got) begins.row) in
    let long = long_taken rows j k within in
    record {
      rows = ap (take n) (begins.rows ∙ taken sources i j k rows got (omega (arith, up))) ∙ take_over n part (rows_from sources i k) left (omega (arith, is, long));
      some = some_taken rows j k up within;
      wide = all_taken (HasWidth (width_of (rows_in place))) place i j k rows got (even place readable);
      width = refl;
    }

pub none_read : (rows : List Row) (n : ℕ) → rows ≡ [] → take n rows ≡ []
none_read rows n none = ap (take n) none ∙ take_all n [] (omega arith)
