-- `won take` and `lost take` keep the rule.
use Rattle.std.proofs.Common.{◌≡◌, ◌⊎◌, ◌==◌, ℕ, true, false, true≢false, List, [], ◌∷◌, Some, sym, ap, ◌∙◌, refl, subst, inl, inr, arith}
use Rattle.std.specs.Prelude.{Option, slice_index, slice_set, count_by}
use mathlib.Core.Option.{none}
use mathlib.Core.List.{IsPrefix}
use lib.ListN.{get_elem?}
use prog.Atomic.{either}
use Rattle.atomic_table.specs.Table.{State, Me, step, stepped, Allows, Act, keeps, takes, Valid, carried_after}
use Rattle.atomic_table.proofs.Lists.{set_here, set_again}
use Rattle.kq_lock.specs.declared.view.View.{View}
use Rattle.kq_lock.specs.Views.{taking_view}
use Rattle.kq_lock.specs.Steps.{TakesOrNot}
use Rattle.kq_lock.specs.Rule.{IsLive, Knows, IsHome, IsOut, Kept}
use Rattle.kq_lock.proofs.Beginnings.{IsPrefix-refl}
use Rattle.kq_lock.proofs.Sums.{within, sum_by-set_same}
use Rattle.kq_lock.proofs.Seats.{each_set, knows_set, spent_set}

module _ {S E : Type 0} (history : S → List E) (fixed : S → List ℕ) (passes : ℕ) (fx : List ℕ) where
  abbrev K : State (Option S) (View E) → Type 0
  K = Kept history fixed passes fx

  -- what the word becomes: 1 where it was 0
  abbrev pub raised : ℕ → ℕ
  raised n = either (n == 0) 1 n

  pub allows_take : (slots id : ℕ) (v : View E) → v.holds ≡ false → IsLive v
      → Allows K slots id (v, []) 0 raised (TakesOrNot history fixed (step slots 0 0 1 none) (v, []))
  allows_take slots id v idle live s kept one at small = go kept.place
    where
      f : Knows passes fx kept.h v
      f = kept.knows id v at live

      won : (home : IsHome history fixed passes fx kept.h s) → K (stepped s 0 1 id [] (taking_view v (history home.value)) (takes 0 (Some home.value)))
      won home = let w = taking_view v (history home.value) in record {
        h = kept.h;
        place = inr (record {
          seat = id;
          holder = w;
          words = ap (λ ws. slice_set ws 0 1) home.words;
          homes = ap (λ hs. slice_set hs 0 none) home.homes;
          there = set_here s.views id w (within s.views id v at);
          holds = refl;
          live = live;
          base = home.history_is;
          alone = each_set (λ other u. u.holds ≡ true → other ≡ id) s.views id w (λ _. refl) (λ j u _ e held. absurd (true≢false (sym held ∙ home.nobody j u e)));
        });
        knows = knows_set passes fx kept.h kept.h s.views id w kept.knows (IsPrefix-refl kept.h) (λ _. record { seen = f.seen; olds = f.olds; passes_is = f.passes_is; fixed_is = f.fixed_is });
        worths = sum_by-set_same (λ u. u.worth) s.views id passes v w at refl kept.worths;
        adds = λ test. sum_by-set_same (λ u. count_by test u.added) s.views id (count_by test kept.h) v w at refl (kept.adds test);
        spent = spent_set s.views id w kept.spent (λ gone. absurd (omega (arith, live, gone)));
      }

      lost : (out : IsOut history fixed passes fx kept.h s) → K (stepped s 0 1 id [] v keeps)
      lost out =
          let same = ap (λ ws. slice_set ws 0 1) out.words ∙ sym out.words in
          subst K (λ i. record { words = sym same i; homes = s.homes; views = sym (set_again s.views id v at) i }) kept

      go : IsHome history fixed passes fx kept.h s ⊎ IsOut history fixed passes fx kept.h s
          → (w : View E) × (a : Act (Option S)) × Valid s.homes [] a × K (stepped s 0 (raised (slice_index s.words 0)) id [] w a) × TakesOrNot history fixed (step slots 0 0 1 none) (v, []) (slice_index s.words 0) (w, carried_after [] a)
      go (inl home) =
          let x = home.value in
          let w = taking_view v (history x) in
          let free : slice_index s.words 0 ≡ 0 = ap (λ ws. slice_index ws 0) home.words in (
            w,
            takes 0 (Some x),
            ap (λ hs. get_elem? hs 0) home.homes,
            subst (λ n. K (stepped s 0 (raised n) id [] w (takes 0 (Some x)))) (sym free) (won home),
            subst (λ n. TakesOrNot history fixed (step slots 0 0 1 none) (v, []) n (w, (0, Some x) ∷ [])) (sym free)
                (x, refl, subst (IsPrefix v.seen) (sym home.history_is) f.seen, home.fixed_is ∙ sym f.fixed_is),
          )
      go (inr out) =
          let held : slice_index s.words 0 ≡ 1 = ap (λ ws. slice_index ws 0) out.words in (
            v,
            keeps,
            tt,
            subst (λ n. K (stepped s 0 (raised n) id [] v keeps)) (sym held) (lost out),
            subst (λ n. TakesOrNot history fixed (step slots 0 0 1 none) (v, []) n (v, [])) (sym held) refl,
          )

  pub allows_take_at : (slots id : ℕ) (m : Me (Option S) (View E)) → m.0.holds ≡ false → IsLive m.0 → m.1 ≡ []
      → Allows K slots id m 0 raised (TakesOrNot history fixed (step slots 0 0 1 none) m)
  allows_take_at slots id m idle live nothing =
      subst (λ (l : List (ℕ × Option S)). Allows K slots id (m.0, l) 0 raised (TakesOrNot history fixed (step slots 0 0 1 none) (m.0, l))) (sym nothing) (allows_take slots id m.0 idle live)
