-- A search among sorted entries, and one more entry in its gap.
use Rattle.std.proofs.Common.{◌≡◌, ◌<◌, ◌≤◌, ℕ, ◌+◌, ◌-◌, List, length, get_or, false, Result, Ok, Err, IfOk, IfErr, ap, sym, ◌∙◌, subst, arith, ◌⊎◌, inl, inr}
use Rattle.std.specs.Ordering.{is_lt, ordering_reverse}
use Rattle.std.specs.List.{insert}
use Rattle.std.specs.List.Sorted.{IsSearchInRange, IsBinarySearchResult}
use Rattle.std.proofs.lemmas.Bool.{cases_order}
use Rattle.std.proofs.lemmas.Cmp.{nat_list_cmp_total}
use Rattle.std.proofs.lemmas.Map.Lookups.{exact_bytes}
use Rattle.std.proofs.lemmas.List.Sorted.{searchable_from_sorted}
use Rattle.std.proofs.lemmas.List.Edits.{length-insert, get_or-insert_below, get_or-insert_at, get_or-insert_above}
use Rattle.kq_catalog_indexes.specs.declared.entry.Entry.{Entry}
use Rattle.kq_catalog_indexes.specs.Index.{name_cmp, AreSorted, HasNameAt, IsGapFor}

-- a binary search ends at the name, or at the gap for it
pub searched : (entries : List Entry) (name : List ℕ) (r : Result ℕ ℕ) → AreSorted entries → IsSearchInRange r (length entries) → IsBinarySearchResult (λ (e : Entry). name_cmp e.name name) entries r
    → IfOk r (HasNameAt name entries) × IfErr r (IsGapFor name entries)
searched entries name (Ok at) sorted within equal = (record { within = within; same = λ d. exact_bytes _ _ (equal d) }, tt)
searched entries name (Err at) sorted within parted =
    let parts = parted (searchable_from_sorted nat_list_cmp_total (λ (e : Entry). e.name) entries name sorted) in (
      tt,
      record {
        within = within;
        before = parts.0;
        behind = parts.1;
      },
    )

-- what stands in a gap comes after the lesser names, and before the greater ones
pub AreSorted-insert : (entries : List Entry) (new : Entry) (at : ℕ) → AreSorted entries → IsGapFor new.name entries at → AreSorted (insert entries at new)
AreSorted-insert entries new at sorted gap k d low within = by_place (cases_order (k + 1) at) (cases_order k at)
  where
    count : length (insert entries at new) ≡ length entries + 1
    count = length-insert entries at new gap.within

    below : (i : ℕ) → i < at → get_or (insert entries at new) i d ≡ get_or entries i d
    below i less = get_or-insert_below entries at new d i less gap.within

    here : (i : ℕ) → i ≡ at → get_or (insert entries at new) i d ≡ new
    here i is = ap (λ (n : ℕ). get_or (insert entries at new) n d) is ∙ get_or-insert_at entries at new d gap.within

    above : (i : ℕ) → at ≤ i → get_or (insert entries at new) (i + 1) d ≡ get_or entries i d
    above i more = get_or-insert_above entries at new d i more gap.within

    NotLess : Entry → Entry → Type 0
    NotLess x y = is_lt (name_cmp x.name y.name) ≡ false

    both : (x y : Entry) → get_or (insert entries at new) (k + 1) d ≡ x → get_or (insert entries at new) k d ≡ y → NotLess x y → NotLess (get_or (insert entries at new) (k + 1) d) (get_or (insert entries at new) k d)
    both x y is_x is_y holds = subst (λ (e : Entry). NotLess e (get_or (insert entries at new) k d)) (sym is_x) (subst (λ (e : Entry). NotLess x e) (sym is_y) holds)

    after_lesser : k + 1 ≡ at → NotLess new (get_or entries k d)
    after_lesser is = ap is_lt (nat_list_cmp_total.antisymm new.name (get_or entries k d).name ∙ ap ordering_reverse (gap.before k d (omega arith) (omega (arith, is))))

    before_greater : k ≡ at → NotLess (get_or entries k d) new
    before_greater is = ap is_lt (gap.behind k d (omega (arith, is)) (omega (arith, is, within, count)))

    later : at < k → NotLess (get_or entries k d) (get_or entries (k - 1) d)
    later more =
        let next : k - 1 + 1 ≡ k = omega (arith, more) in
        subst (λ (n : ℕ). NotLess (get_or entries n d) (get_or entries (k - 1) d)) next (sorted (k - 1) d (omega arith) (omega (arith, more, within, count)))

    above_before : at < k → get_or (insert entries at new) k d ≡ get_or entries (k - 1) d
    above_before more =
        let next : k - 1 + 1 ≡ k = omega (arith, more) in
        ap (λ (n : ℕ). get_or (insert entries at new) n d) (sym next) ∙ above (k - 1) (omega (arith, more))

    by_place : (k + 1 ≡ at) ⊎ ((k + 1 < at) ⊎ (at < k + 1)) → (k ≡ at) ⊎ ((k < at) ⊎ (at < k)) → NotLess (get_or (insert entries at new) (k + 1) d) (get_or (insert entries at new) k d)
    by_place (inl is) second = both new (get_or entries k d) (here (k + 1) is) (below k (omega (arith, is))) (after_lesser is)
    by_place (inr (inl less)) second = both (get_or entries (k + 1) d) (get_or entries k d) (below (k + 1) less) (below k (omega (arith, less))) (sorted k d (omega arith) (omega (arith, less, gap.within)))
    by_place (inr (inr more)) (inl is) = both (get_or entries k d) new (above k (omega (arith, is))) (here k is) (before_greater is)
    by_place (inr (inr more)) (inr (inl less)) = absurd (omega (arith, more, less))
    by_place (inr (inr more)) (inr (inr most)) = both (get_or entries k d) (get_or entries (k - 1) d) (above k (omega (arith, most))) (above_before most) (later most)
