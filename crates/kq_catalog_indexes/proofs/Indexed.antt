-- What an index finds, and an index with one name more.
use Rattle.std.proofs.Common.{◌≡◌, ◌≢◌, ◌<◌, ℕ, List, [], ◌∷◌, ◌++◌, length, All, get_or, Option, Some, None, refl, ap, sym, ◌∙◌, arith, ◌⊎◌, inl, inr}
use Rattle.std.specs.declared.cmp.Ordering.TheVariants.{Less, Equal, Greater}
use Rattle.std.specs.List.{insert, Contains}
use Rattle.std.specs.List.Sorted.{IsPermutation}
use Rattle.std.proofs.lemmas.Bool.{cases_order}
use Rattle.std.proofs.lemmas.Cmp.{nat_list_cmp_total, tied_itself}
use Rattle.std.proofs.lemmas.List.Elements.{All-cons, Contains-append_right}
use Rattle.std.proofs.lemmas.List.Sorted.{All-permutation, Contains-permutation, IsPermutation-insert}
use Rattle.kq_catalog_indexes.specs.declared.entry.Entry.{Entry}
use Rattle.kq_catalog_indexes.specs.Places.{place_of}
use Rattle.kq_catalog_indexes.specs.Index.{name_cmp, HasNameAt, IsGapFor, IsPlaced, IsIndex}
use Rattle.kq_catalog_indexes.proofs.Places.{place_of-go_on, place_of-last, place_of-cases}
use Rattle.kq_catalog_indexes.proofs.Sorted.{AreSorted-insert}

-- no entry has the name of a gap
pub gap_lacks : (entries : List Entry) (name : List ℕ) (at : ℕ) (number : ℕ) → IsGapFor name entries at → Contains entries (record { name = name; number = number }) → ⊥
gap_lacks entries name at number gap held =
    let e : Entry = record { name = name; number = number } in
    let k = held.0 in
    let equal : name_cmp (get_or entries k e).name name ≡ Equal = ap (λ (x : Entry). name_cmp x.name name) held.2 ∙ tied_itself nat_list_cmp_total name in
    by_place e k held.1 equal (cases_order k at)
  where
    greater : (Greater ≡ Equal) → ⊥
    greater is = cc

    lesser : (Less ≡ Equal) → ⊥
    lesser is = cc

    by_place : (e : Entry) (k : ℕ) → k < length entries → name_cmp (get_or entries k e).name name ≡ Equal → (k ≡ at) ⊎ ((k < at) ⊎ (at < k)) → ⊥
    by_place e k within equal (inl is) = greater (sym (gap.behind k e (omega (arith, is)) within) ∙ equal)
    by_place e k within equal (inr (inl less)) = lesser (sym (gap.before k e (omega arith) less) ∙ equal)
    by_place e k within equal (inr (inr more)) = greater (sym (gap.behind k e (omega (arith, more)) within) ∙ equal)

-- a name that has a gap has no place
pub gap_place : (names : List (List ℕ)) (entries : List Entry) (name : List ℕ) (at : ℕ) → IsIndex names entries → IsGapFor name entries at → place_of name names ≡ None
gap_place names entries name at index gap = by_place (place_of name names) refl
  where
    by_place : (o : Option ℕ) → place_of name names ≡ o → place_of name names ≡ None
    by_place None is = is
    by_place (Some k) is = absurd (gap_lacks entries name at k gap (index.whole name k is))

-- where no entry has the name, none stands at its place
pub none_stands : (entries : List Entry) (name : List ℕ) (at : ℕ) → All (λ (e : Entry). e.name ≢ name) entries → HasNameAt name entries at → ⊥
none_stands entries name at absent has = let e : Entry = record { name = []; number = 0 } in absent at e has.within (has.same e)

is_new : (new : Entry) (name : List ℕ) (k : ℕ) → new.name ≡ name → new.number ≡ k → new ≡ record { name = name; number = k }
is_new new name k is_name is_number = λ i. record { name = is_name i; number = is_number i }

-- the index of the names and one more
pub IsIndex-with : (names more : List (List ℕ)) (entries all : List Entry) (new : Entry) (at : ℕ) → IsIndex names entries → place_of new.name names ≡ None → new.number ≡ length names → IsGapFor new.name entries at
    → more ≡ names ++ new.name ∷ [] → all ≡ insert entries at new → IsIndex more all
IsIndex-with names more entries all new at index none number gap is_more is_all = rw (is_more, is_all) record {
  sorted = AreSorted-insert entries new at index.sorted gap;
  placed = All-permutation (IsPlaced (names ++ new.name ∷ [])) (new ∷ entries) (insert entries at new) moved (All-cons (IsPlaced (names ++ new.name ∷ [])) new entries last others);
  whole = λ name k is. Contains-permutation (new ∷ entries) (insert entries at new) (record { name = name; number = k }) moved (holds name k (place_of-cases name names new.name k is));
}
  where
    moved : IsPermutation (new ∷ entries) (insert entries at new)
    moved = IsPermutation-insert entries at new

    last : IsPlaced (names ++ new.name ∷ []) new
    last = place_of-last new.name names none ∙ ap (λ (n : ℕ). Some n) (sym number)

    others : All (IsPlaced (names ++ new.name ∷ [])) entries
    others k e within = place_of-go_on (get_or entries k e).name names (new.name ∷ []) (get_or entries k e).number (index.placed k e within)

    holds : (name : List ℕ) (k : ℕ) → (place_of name names ≡ Some k) ⊎ ((new.name ≡ name) × (length names ≡ k)) → Contains (new ∷ entries) (record { name = name; number = k })
    holds name k (inl is) = Contains-append_right (new ∷ []) entries (record { name = name; number = k }) (index.whole name k is)
    holds name k (inr is) = (0, omega arith, is_new new name k is.0 (number ∙ is.1))
