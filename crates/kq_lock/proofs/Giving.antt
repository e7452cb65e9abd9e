-- `count store` and `turn store` keep the rule, and so does `count load`.
use Rattle.std.proofs.Common.{◌≡◌, ◌≢◌, ◌⊎◌, ◌+◌, ℕ, Bool, true, false, true≢false, List, [], ◌∷◌, ◌++◌, length, set, cond, Some, sym, ap, ◌∙◌, refl, subst, inl, inr, arith}
use Rattle.std.specs.Prelude.{Option, unwrap_or, slice_index, slice_set, sum_by, count_by}
use mathlib.Core.Option.{some, none, some-injective}
use mathlib.Core.List.{IsPrefix}
use lib.ListN.{get_elem?}
use Rattle.atomic_table.specs.Table.{State, Me, step, stepped, Allows, Act, keeps, gives, Valid, carried_after, put_back, rest}
use Rattle.atomic_table.proofs.Lists.{set_here, set_again}
use Rattle.kq_lock.specs.declared.view.View.{View}
use Rattle.kq_lock.specs.Histories.{gained}
use Rattle.kq_lock.specs.Views.{counted_view, given_view}
use Rattle.kq_lock.specs.Steps.{Counts, GivesBack, Learns}
use Rattle.kq_lock.specs.Rule.{IsLive, Knows, IsHome, IsOut, Kept}
use Rattle.kq_lock.proofs.Beginnings.{IsPrefix-refl, append-gained}
use Rattle.std.proofs.lemmas.List.Sums.{sum_by-append}
use Rattle.kq_lock.proofs.Sums.{within, sum_by-set_at, sum_by-set_same}
use Rattle.kq_lock.proofs.Seats.{each_set, Knows-longer, knows_set, spent_set}

module _ {S E : Type 0} (history : S → List E) (fixed : S → List ℕ) (passes : ℕ) (fx : List ℕ) where
  abbrev K : State (Option S) (View E) → Type 0
  K = Kept history fixed passes fx

  abbrev Home : List E → State (Option S) (View E) → Type 0
  Home = IsHome history fixed passes fx

  abbrev Out : List E → State (Option S) (View E) → Type 0
  Out = IsOut history fixed passes fx

  -- the value that a seat carries is x, where it is known to carry one
  abbrev value_of : S → List (ℕ × Option S) → S
  value_of x [] = x
  value_of x (p ∷ ps) = unwrap_or p.1 x

  -- the base of the seat that holds the value is the history
  base_is : (h : List E) (s : State (Option S) (View E)) (id : ℕ) (v : View E) → get_elem? s.views id ≡ some v → v.holds ≡ true → Out h s → v.base ≡ h
  base_is h s id v at holds out =
      ap (λ (u : View E). u.base) (some-injective v out.holder (sym at ∙ ap (get_elem? s.views) (out.alone id v at holds) ∙ out.there)) ∙ out.base

  pub allows_count : (slots id : ℕ) (v : View E) (x : S) (c : List (ℕ × Option S)) (new : ℕ)
      → v.holds ≡ true → IsLive v → c ≡ (0, Some x) ∷ [] → IsPrefix v.base (history x) → new ≡ length (history x)
      → Allows K slots id (v, c) 1 (λ _. new) (λ _. Counts history (step slots 1 new 0 none) (v, c) new)
  allows_count slots id v x c new holds live carries begins is s kept one at small = go kept.place
    where
      grown : (test : E → Bool) → count_by test (history x) ≡ count_by test v.base + count_by test (gained v.base (history x))
      grown test = ap (count_by test) (sym (append-gained v.base (history x) begins)) ∙ sum_by-append (λ y. cond (test y) 1 0) v.base (gained v.base (history x))

      longer : Out kept.h s → IsPrefix kept.h (history x)
      longer out = subst (λ l. IsPrefix l (history x)) (base_is kept.h s id v at holds out) begins

      counted : (out : Out kept.h s) → K (stepped s 1 new id c (counted_view v (history x)) keeps)
      counted out =
          let w' = counted_view v (history x) in
          let same = out.alone id v at holds in
          let f = kept.knows id v at live in
          record {
            h = history x;
            place = inr (record {
              seat = id;
              holder = w';
              words = ap (λ ws. slice_set ws 1 new) out.words ∙ ap (λ n. 1 ∷ n ∷ []) is;
              homes = out.homes;
              there = set_here s.views id w' (within s.views id v at);
              holds = holds;
              live = live;
              base = refl;
              alone = each_set (λ other u. u.holds ≡ true → other ≡ id) s.views id w' (λ _. refl) (λ j u _ e held. out.alone j u e held ∙ sym same);
            });
            knows = knows_set passes fx kept.h (history x) s.views id w' kept.knows (longer out)
                (λ _. let k = Knows-longer passes fx kept.h (history x) v (longer out) f in record { seen = k.seen; olds = k.olds; passes_is = k.passes_is; fixed_is = k.fixed_is });
            worths = sum_by-set_same (λ u. u.worth) s.views id passes v w' at refl kept.worths;
            adds = λ test.
                let f : View E → ℕ = λ u. count_by test u.added in
                let changed : sum_by f (set s.views id w') + count_by test v.added ≡ sum_by f s.views + count_by test (v.added ++ gained v.base (history x)) = sum_by-set_at f s.views id v w' at in
                let more : count_by test (v.added ++ gained v.base (history x)) ≡ count_by test v.added + count_by test (gained v.base (history x)) = sum_by-append (λ y. cond (test y) 1 0) v.added (gained v.base (history x)) in
                let based : count_by test v.base ≡ count_by test kept.h = ap (count_by test) (base_is kept.h s id v at holds out) in
                omega (arith, changed, more, grown test, kept.adds test, based);
            spent = spent_set s.views id w' kept.spent (λ gone. absurd (omega (arith, live, gone)));
          }

      go : Home kept.h s ⊎ Out kept.h s → (u : View E) × (a : Act (Option S)) × Valid s.homes c a × K (stepped s 1 new id c u a) × Counts history (step slots 1 new 0 none) (v, c) new (u, carried_after c a)
      go (inl home) = absurd (true≢false (sym holds ∙ home.nobody id v at))
      go (inr out) = (
        counted_view v (history x),
        keeps,
        tt,
        counted out,
        λ y e. ap (λ z. (counted_view v (history z), c)) (ap (value_of x) (sym carries ∙ e)),
      )

  pub allows_give : (slots id : ℕ) (v : View E) (x : S) (c : List (ℕ × Option S)) → v.holds ≡ true → IsLive v → c ≡ (0, Some x) ∷ [] → v.base ≡ history x → fixed x ≡ v.fixed
      → Allows K slots id (v, c) 0 (λ _. 0) (λ _. GivesBack (step slots 0 0 0 none) (v, c) 0)
  allows_give slots id v x c holds live carries base same_fixed s kept one at small = go kept.place
    where
      f : Knows passes fx kept.h v
      f = kept.knows id v at live

      not_held : Out kept.h s → (j : ℕ) (u : View E) → j ≢ id → get_elem? s.views j ≡ some u → u.holds ≡ false
      not_held out j u apart there = by_holds u.holds refl
        where
          by_holds : (b : Bool) → u.holds ≡ b → u.holds ≡ false
          by_holds false e = e
          by_holds true e = absurd (apart (out.alone j u there e ∙ sym (out.alone id v at holds)))

      given : (out : Out kept.h s) → K (stepped s 0 0 id c (given_view v) gives)
      given out =
          let w = given_view v in
          let base' = base_is kept.h s id v at holds out in
          record {
            h = kept.h;
            place = inl (record {
              value = x;
              words = ap (λ ws. slice_set ws 0 0) out.words;
              homes = ap (put_back s.homes) carries ∙ ap (λ hs. slice_set hs 0 (some (Some x))) out.homes;
              history_is = sym base ∙ base';
              fixed_is = same_fixed ∙ f.fixed_is;
              nobody = each_set (λ _ u. u.holds ≡ false) s.views id w refl (not_held out);
            });
            knows = knows_set passes fx kept.h kept.h s.views id w kept.knows (IsPrefix-refl kept.h)
                (λ _. record { seen = subst (λ l. IsPrefix l kept.h) (sym base') (IsPrefix-refl kept.h); olds = f.olds; passes_is = f.passes_is; fixed_is = f.fixed_is });
            worths = sum_by-set_same (λ u. u.worth) s.views id passes v w at refl kept.worths;
            adds = λ test. sum_by-set_same (λ u. count_by test u.added) s.views id (count_by test kept.h) v w at refl (kept.adds test);
            spent = spent_set s.views id w kept.spent (λ gone. absurd (omega (arith, live, gone)));
          }

      go : Home kept.h s ⊎ Out kept.h s → (w : View E) × (a : Act (Option S)) × Valid s.homes c a × K (stepped s 0 0 id c w a) × GivesBack (step slots 0 0 0 none) (v, c) 0 (w, carried_after c a)
      go (inl home) = absurd (true≢false (sym holds ∙ home.nobody id v at))
      go (inr out) = (given_view v, gives, tt, given out, ap (λ (l : List (ℕ × Option S)). (given_view v, rest l)) carries)

  pub allows_load : (slots id : ℕ) (m : Me (Option S) (View E)) → IsLive m.0 → Allows K slots id m 1 (λ n. n) (Learns (step slots 1 0 0 none) m)
  allows_load slots id m live s kept one at small =
      let f = kept.knows id m.0 at live in
      let words = same_words kept.place in
      (m.0, keeps, tt, subst K (λ i. record { words = sym words i; homes = s.homes; views = sym (set_again s.views id m.0 at) i }) kept, (refl, (kept.h, f.seen, f.olds)))
    where
      same_words : Home kept.h s ⊎ Out kept.h s → slice_set s.words 1 (slice_index s.words 1) ≡ s.words
      same_words (inl home) = ap (λ ws. slice_set ws 1 (slice_index ws 1)) home.words ∙ sym home.words
      same_words (inr out) = ap (λ ws. slice_set ws 1 (slice_index ws 1)) out.words ∙ sym out.words
