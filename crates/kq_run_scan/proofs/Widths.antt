-- The widths of rows of sources.
use Rattle.std.proofs.Common.{◌≡◌, ◌+◌, ℕ, suc, List, [], ◌∷◌, ◌++◌, Some, length, take, drop, refl, sym, subst, arith, length-append}
use Rattle.std.specs.List.{All, slice_get}
use Rattle.std.proofs.lemmas.List.{get_or_append_left, get_or-append-add}
use Rattle.std.proofs.lemmas.List.Elements.{All-nil, All-cons, All-take, All-append}
use Rattle.kq_value.specs.declared.value.Value.{Value}
use Rattle.kq_store_rows.specs.Chunks.{HasWidth, same_width}
use Rattle.kq_store_rows.proofs.Typed.{same_width-wide}
use Rattle.kq_run_scan.specs.Unread.{rows_among, width_of}
use Rattle.kq_run_scan.proofs.Walks.{among_about}

pub all_wide : (rows : List (List Value)) → same_width rows → All (HasWidth (width_of rows)) rows
all_wide [] same = All-nil (HasWidth 0)
all_wide (r ∷ rows) same = All-cons (HasWidth (length r)) r rows refl same

pub first_all : (P : List Value → Type 0) (xs ys : List (List Value)) → All P (xs ++ ys) → All P xs
first_all P xs ys all = λ k d h. subst P (get_or_append_left xs ys d k h) (all k d (let n = length-append xs ys in omega (arith, n, h)))

pub other_all : (P : List Value → Type 0) (xs ys : List (List Value)) → All P (xs ++ ys) → All P ys
other_all P xs ys all = λ k d h. subst P (get_or-append-add xs ys k d) (all (length xs + k) d (let n = length-append xs ys in omega (arith, n, h)))

-- the first rows so far, and those of one source more
pub first_even : (sources : List (List (List Value))) (i : ℕ) (rows : List (List Value)) (count : ℕ) (few : List (List Value)) → slice_get sources i ≡ Some rows → same_width (rows_among sources)
    → few ≡ take count (rows_among (take i sources)) → same_width (few ++ rows)
first_even sources i rows count few got same is =
    let w = width_of (rows_among sources) in
    let P = HasWidth w in
    let first = rows_among (take i sources) in
    let all = subst (λ (rs : List (List Value)). All P rs) (among_about sources i rows got) (all_wide (rows_among sources) same) in
    let both = first_all P (first ++ rows) (rows_among (drop (suc i) sources)) all in
    let some = All-take P count first (first_all P first rows both) in
    same_width-wide w (few ++ rows) (All-append P few rows (subst (λ (rs : List (List Value)). All P rs) (sym is) some) (other_all P first rows both))
