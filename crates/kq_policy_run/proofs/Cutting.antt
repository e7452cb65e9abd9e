-- Rows cut to the first of their columns.
use Rattle.std.proofs.Common.{◌≡◌, ◌+◌, min, ◌∷◌, ◌++◌, [], ℕ, zero, suc, List, All, Some, get_or, length, map, take, slice_get, refl, ap, sym, ◌∙◌, subst, nat_lt, Bool, true, false, arith}
use Rattle.std.proofs.lemmas.Bool.{ltb-false, ltb-true}
use Rattle.std.proofs.lemmas.List.{length-take-le, map_more, take_all}
use Rattle.std.proofs.lemmas.List.Elements.{All-cons, All-head, All-nil, All-push, All-tail}
use Rattle.std.proofs.lemmas.Option.{get_or_from_slice_get, slice_get_within}
use Rattle.kq_store_rows.specs.Chunks.{HasWidth}
use Rattle.kq_value.specs.declared.schema.Field.{Field}
use Rattle.kq_value.specs.declared.value.Value.{Value}
use Rattle.kq_value.specs.Typed.{HasTypes}

-- so many of the columns, and as many of a row's cells
pub typed_take : (n : ℕ) (fields : List Field) (row : List Value) → HasTypes fields row → HasTypes (take n fields) (take n row)
typed_take zero fields row typed = tt
typed_take (suc n) [] [] typed = tt
typed_take (suc n) [] (v ∷ row) typed = absurd typed
typed_take (suc n) (f ∷ fields) [] typed = absurd typed
typed_take (suc n) (f ∷ fields) (v ∷ row) typed = (typed.0, typed_take n fields row typed.1)

pub all_typed_take : (n : ℕ) (fields : List Field) (rows : List (List Value)) → All (HasTypes fields) rows → All (HasTypes (take n fields)) (map (take n) rows)
all_typed_take n fields [] typed = All-nil (HasTypes (take n fields))
all_typed_take n fields (row ∷ rows) typed =
    All-cons (HasTypes (take n fields)) (take n row) (map (take n) rows) (typed_take n fields row (All-head (HasTypes fields) row rows typed)) (all_typed_take n fields rows (All-tail (HasTypes fields) row rows typed))

-- as many cells as there are columns are the whole row
pub take_whole : (fields : List Field) (row : List Value) → HasTypes fields row → take (length fields) row ≡ row
take_whole [] [] typed = refl
take_whole [] (v ∷ row) typed = absurd typed
take_whole (f ∷ fields) [] typed = absurd typed
take_whole (f ∷ fields) (v ∷ row) typed = ap (λ (vs : List Value). v ∷ vs) (take_whole fields row typed.1)

pub all_whole : (fields : List Field) (rows : List (List Value)) → All (HasTypes fields) rows → map (take (length fields)) rows ≡ rows
all_whole fields [] typed = refl
all_whole fields (row ∷ rows) typed =
    ap (λ (r : List Value). r ∷ map (take (length fields)) rows) (take_whole fields row (All-head (HasTypes fields) row rows typed))
    ∙ ap (λ (rs : List (List Value)). row ∷ rs) (all_whole fields rows (All-tail (HasTypes fields) row rows typed))

-- the first of some columns, as many as they are
pub first_of : {X : Type 0} (n : ℕ) (xs : List X) → take n xs ≡ take (length (take n xs)) xs
first_of zero xs = refl
first_of (suc n) [] = refl
first_of (suc n) (x ∷ xs) = ap (λ (ys : List _). x ∷ ys) (first_of n xs)

-- ---- row by row

abbrev Row : Type 0
Row = List Value

cut_row : (row : Row) (width count : ℕ) → length row ≡ width → take (min width count) row ≡ take count row
cut_row row width count wide = by_test (nat_lt count width) refl
  where
    by_test : (b : Bool) → nat_lt count width ≡ b → take (min width count) row ≡ take count row
    by_test true test =
        let below = ltb-true count width test in
        let is : min width count ≡ count = omega (arith, below) in
        ap (λ (n : ℕ). take n row) is
    by_test false test =
        let past = ltb-false count width test in
        let is : min width count ≡ width = omega (arith, past) in
        ap (λ (n : ℕ). take n row) is ∙ take_all width row (omega (arith, wide)) ∙ sym (take_all count row (omega (arith, wide, past)))

-- one row more, whose cells are put behind the others
pub cut_more : (rows few new : List Row) (row : Row) (width count narrow i : ℕ) → slice_get rows i ≡ Some row → All (HasWidth width) rows → narrow ≡ min width count → few ≡ map (take count) (take i rows) → All (HasWidth narrow) few
    → new ≡ few ++ take narrow row ∷ [] → (new ≡ map (take count) (take (i + 1) rows)) × All (HasWidth narrow) new
cut_more rows few new row width count narrow i at wide is so_far all put =
    let within = slice_get_within rows i row at in
    let here : get_or rows i row ≡ row = get_or_from_slice_get rows i row row at in
    let own : length row ≡ width = subst (HasWidth width) here (wide i row within) in
    let same : take narrow row ≡ take count row = ap (λ (n : ℕ). take n row) is ∙ cut_row row width count own in
    let more : map (take count) (take (i + 1) rows) ≡ map (take count) (take i rows) ++ take count (get_or rows i row) ∷ [] = map_more (take count) rows i row within in
    let long : length (take narrow row) ≡ narrow = length-take-le narrow row (omega (arith, own, is)) in (
      put ∙ ap (λ (rs : List Row). rs ++ take narrow row ∷ []) so_far ∙ ap (λ (r : Row). map (take count) (take i rows) ++ r ∷ []) (same ∙ ap (take count) (sym here)) ∙ sym more,
      subst (All (HasWidth narrow)) (sym put) (All-push (HasWidth narrow) few (take narrow row) all long),
    )
