-- Tables that are marked as found.
use Rattle.std.proofs.Common.{◌≡◌, ◌⊎◌, ◌+◌, inl, inr, ℕ, zero, suc, Bool, true, false, cond, List, [], ◌∷◌, ◌++◌, length, set, refl, ap, sym, ◌∙◌, subst, arith}
use Rattle.std.proofs.lemmas.Bool.{false≢true}
use Rattle.std.proofs.lemmas.List.{length_push}
use Rattle.std.proofs.lemmas.List.Elements.{Contains-append_left, Contains-push, Contains-push_cases}
use Rattle.std.specs.List.{Contains}
use Rattle.kq_catalog_journal.specs.declared.policy.Entry.{Entry}
use Rattle.kq_policy_entries.specs.Search.{AddsSources, HasSource, is_marked, marked_with, open_with, unmarked}

set-marked : (marked : List Bool) (t : ℕ) → is_marked (set marked t true) t ≡ true
set-marked [] t = refl
set-marked (b ∷ bs) zero = refl
set-marked (b ∷ bs) (suc t) = set-marked bs t

set-keeps : (marked : List Bool) (t n : ℕ) → is_marked marked n ≡ true → is_marked (set marked t true) n ≡ true
set-keeps [] t n is = refl
set-keeps (b ∷ bs) zero zero is = refl
set-keeps (b ∷ bs) zero (suc n) is = is
set-keeps (b ∷ bs) (suc t) zero is = is
set-keeps (b ∷ bs) (suc t) (suc n) is = set-keeps bs t n is

set-fresh : (marked : List Bool) (t n : ℕ) → is_marked (set marked t true) n ≡ true → (is_marked marked n ≡ true) ⊎ (t ≡ n)
set-fresh [] t n is = inl refl
set-fresh (b ∷ bs) zero zero is = inr refl
set-fresh (b ∷ bs) zero (suc n) is = inl is
set-fresh (b ∷ bs) (suc t) zero is = inl is
set-fresh (b ∷ bs) (suc t) (suc n) is = by_rest (set-fresh bs t n is)
  where
    by_rest : (is_marked bs n ≡ true) ⊎ (t ≡ n) → (is_marked bs n ≡ true) ⊎ (suc t ≡ suc n)
    by_rest (inl before) = inl before
    by_rest (inr same) = inr (ap (λ (k : ℕ). suc k) same)

set-count : (marked : List Bool) (t : ℕ) → is_marked marked t ≡ false → unmarked (set marked t true) + 1 ≡ unmarked marked
set-count [] t is = absurd (false≢true (sym is))
set-count (true ∷ bs) zero is = absurd (false≢true (sym is))
set-count (false ∷ bs) zero is = refl
set-count (true ∷ bs) (suc t) is = set-count bs t is
set-count (false ∷ bs) (suc t) is = let rest = set-count bs t is in omega (arith, rest)

-- ---- adding

HasSource-more : (es : List Entry) (e : Entry) (s : ℕ) → HasSource es s → HasSource (es ++ e ∷ []) s
HasSource-more es e s has = record { entry = has.entry; stands = Contains-append_left es (e ∷ []) has.entry has.stands; names = has.names }

HasSource-cases : (es : List Entry) (e : Entry) (s : ℕ) → HasSource (es ++ e ∷ []) s → HasSource es s ⊎ (e.source ≡ s)
HasSource-cases es e s has = by_case (Contains-push_cases es e has.entry has.stands)
  where
    by_case : Contains es has.entry ⊎ (e ≡ has.entry) → HasSource es s ⊎ (e.source ≡ s)
    by_case (inl before) = inl (record { entry = has.entry; stands = before; names = has.names })
    by_case (inr same) = inr (ap (λ (x : Entry). x.source) same ∙ has.names)

-- one source more, which isn't the target
pub AddsSources-more : (es : List Entry) (e : Entry) (target : ℕ) (a b : List Bool) (o p : List ℕ) → (e.source ≡ target → ⊥) → AddsSources es target a o b p
    → AddsSources (es ++ e ∷ []) target a o (marked_with b e.source) (open_with b p e.source)
AddsSources-more es e target a b o p other adds = by_test (is_marked b e.source) refl
  where
    source_of : (after : List Bool) → ((t : ℕ) → is_marked b t ≡ true → is_marked after t ≡ true) → is_marked after e.source ≡ true → (s : ℕ) → HasSource (es ++ e ∷ []) s → (s ≡ target → ⊥) × (is_marked after s ≡ true)
    source_of after keeps here s has = by_case (HasSource-cases es e s has)
      where
        by_case : HasSource es s ⊎ (e.source ≡ s) → (s ≡ target → ⊥) × (is_marked after s ≡ true)
        by_case (inl before) = let is = adds.all s before in (is.0, keeps s is.1)
        by_case (inr same) = (λ is. other (same ∙ is), ap (is_marked after) (sym same) ∙ here)

    came_from : (after : List ℕ) → ((t : ℕ) → Contains after t → Contains p t ⊎ (e.source ≡ t)) → (t : ℕ) → Contains after t → Contains o t ⊎ HasSource (es ++ e ∷ []) t
    came_from after cases t is = by_case (cases t is)
      where
        by_before : Contains o t ⊎ HasSource es t → Contains o t ⊎ HasSource (es ++ e ∷ []) t
        by_before (inl stood) = inl stood
        by_before (inr has) = inr (HasSource-more es e t has)

        by_case : Contains p t ⊎ (e.source ≡ t) → Contains o t ⊎ HasSource (es ++ e ∷ []) t
        by_case (inl before) = by_before (adds.came t before)
        by_case (inr same) = inr (record { entry = e; stands = Contains-push es e; names = same })

    by_test : (seen : Bool) → is_marked b e.source ≡ seen → AddsSources (es ++ e ∷ []) target a o (cond seen b (set b e.source true)) (cond seen p (p ++ e.source ∷ []))
    by_test true is = record {
      count = adds.count;
      kept = adds.kept;
      stay = adds.stay;
      fresh = adds.fresh;
      came = came_from p (λ t in_p. inl in_p);
      all = source_of b (λ t marked. marked) is;
    }
    by_test false is =
        let fewer = set-count b e.source is in
        let longer = length_push p e.source in
        let before = adds.count in
        record {
          count = omega (arith, fewer, longer, before);
          kept = λ t marked. set-keeps b e.source t (adds.kept t marked);
          stay = λ t stood. Contains-append_left p (e.source ∷ []) t (adds.stay t stood);
          fresh = λ t marked. now_or_before t (set-fresh b e.source t marked);
          came = came_from (p ++ e.source ∷ []) (λ t in_q. Contains-push_cases p e.source t in_q);
          all = source_of (set b e.source true) (λ t marked. set-keeps b e.source t marked) (set-marked b e.source);
        }
      where
        still : (t : ℕ) → (is_marked a t ≡ true) ⊎ Contains p t → (is_marked a t ≡ true) ⊎ Contains (p ++ e.source ∷ []) t
        still t (inl marked) = inl marked
        still t (inr in_p) = inr (Contains-append_left p (e.source ∷ []) t in_p)

        now_or_before : (t : ℕ) → (is_marked b t ≡ true) ⊎ (e.source ≡ t) → (is_marked a t ≡ true) ⊎ Contains (p ++ e.source ∷ []) t
        now_or_before t (inl marked) = still t (adds.fresh t marked)
        now_or_before t (inr same) = inr (subst (Contains (p ++ e.source ∷ [])) same (Contains-push p e.source))
